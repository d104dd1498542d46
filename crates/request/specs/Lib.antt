-- What a master can ask.
pub mod Request
