-- What a build returns to a host, and what it leaves.
pub mod Host
