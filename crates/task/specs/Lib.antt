-- The tasks, as document 01 has them.
pub mod Task
