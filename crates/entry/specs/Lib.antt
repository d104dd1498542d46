-- One record of a parameter table by itself.
pub mod Fields
