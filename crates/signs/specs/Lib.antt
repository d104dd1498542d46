-- Signed numbers, two's complement.
pub mod Signs
