-- The document's numbers of the slave's answers.
pub mod SlaveNumbers
