-- What is claimed of replies that a master reads.
pub mod Claims
pub mod Known
pub mod AnswerTable
