-- The numbers of the errors, as document 01 has them.
pub mod ErrorNumbers
