-- Laws of the slave.
pub mod PerformLaws
pub mod CaseLaws
