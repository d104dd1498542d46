-- Laws of the receiver.
pub mod RunLaws
