-- Laws of replies to a task.
pub mod ContentLaws
