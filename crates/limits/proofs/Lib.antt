-- Laws of limits.
pub mod LimitsLaws
pub mod FitLaws
