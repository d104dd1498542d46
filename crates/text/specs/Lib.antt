-- Text byte by byte and a number's decimal digits.
pub mod Digits
pub mod Decimal
