-- The address byte and the decoded telegram, as document 01 has them.
pub mod Address
