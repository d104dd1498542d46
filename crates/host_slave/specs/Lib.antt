-- What a slave call returns to a host, and what it leaves.
pub mod Host
