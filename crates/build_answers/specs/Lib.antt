-- The document's numbers of a build's answers.
pub mod BuildNumbers
