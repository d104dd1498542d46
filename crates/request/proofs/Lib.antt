-- Laws of what can be asked.
pub mod RequestLaws
