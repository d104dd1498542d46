-- The theorems about the slave call.
pub mod Cases
pub mod Kept
pub mod WhenAnswered
pub mod Replied
pub mod SendLaws
pub mod ReplyArea
pub mod PlainTasks
pub mod AnswerLines
pub mod AnswerTable
pub mod Sequences
pub mod Damaged
pub mod Known
pub mod Listed
