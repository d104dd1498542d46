-- The calls of the receiver.
pub mod Receive
