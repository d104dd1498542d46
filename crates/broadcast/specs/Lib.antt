-- Broadcasts, as document 01 has them.
pub mod Broadcast
