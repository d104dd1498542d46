-- Laws of the digits.
pub mod DigitsLaws
pub mod DecimalLaws
