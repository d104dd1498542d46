-- One item of the receiver.
pub mod Step
