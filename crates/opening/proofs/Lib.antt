-- Laws of the opening check.
pub mod RecordLaws
pub mod PassLaws
pub mod SumsLaws
pub mod ContentLaws
pub mod AnswersLaws
pub mod KeptLaws
pub mod FoundLaws
pub mod KnownOpenings
