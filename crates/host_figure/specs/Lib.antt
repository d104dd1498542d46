-- What a showing returns to a host.
pub mod Host
