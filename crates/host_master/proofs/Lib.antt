-- Laws behind the builds for a host.
pub mod LengthLaws
