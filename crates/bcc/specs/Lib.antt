-- The XOR of a list of bytes.
pub mod Bcc
