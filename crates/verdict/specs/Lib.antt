-- The errors of a task, as document 01 has them.
pub mod Verdict
