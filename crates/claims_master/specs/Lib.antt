-- What is claimed of telegrams that a master builds.
pub mod Claims
pub mod AnswerTable
