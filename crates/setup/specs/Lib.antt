-- Which set-ups may be used.
pub mod SetupRules
