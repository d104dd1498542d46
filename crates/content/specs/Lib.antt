-- Replies to a task, as document 01 has them.
pub mod Content
