-- Laws of set-ups.
pub mod SetupLaws
