-- Laws behind the slave call for a host.
pub mod LengthLaws
