-- Outcomes of slave calls, their answer numbers, the area of a reply, and sequences of calls.
pub mod Outcomes
pub mod AnswerTable
pub mod ReplyArea
pub mod PlainTasks
pub mod Sequence
pub mod Listed
