-- What is heard over many calls of the receiver, which telegrams stand in the items, and a slave behind the receiver.
pub mod Telegrams
pub mod Heard
pub mod Served
pub mod Examples
