-- Laws of signed numbers.
pub mod SignsLaws
