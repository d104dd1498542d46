-- What a reading returns to a host.
pub mod Host
