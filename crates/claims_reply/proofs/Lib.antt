-- What a master makes of a slave's replies.
pub mod ReplyLaws
pub mod SuitLaws
pub mod AnswerLaws
pub mod ReadingLaws
pub mod ReplyIsRead
pub mod RoundTrip
pub mod KnownRound
pub mod AnswerTable
