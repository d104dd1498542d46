-- The document's numbers of a reading's answers.
pub mod ReadNumbers
