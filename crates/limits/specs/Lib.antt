-- The limits of one record, as document 01 has them.
pub mod Limits
