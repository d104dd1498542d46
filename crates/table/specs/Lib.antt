-- The records of a table.
pub mod Records
