-- The laws of the definitions that the functions' proofs and the crates above cite.
pub mod TaskLaws
