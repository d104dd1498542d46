-- The slave: a parameter task on the lent values, and the whole call.
pub mod Perform
pub mod Slave
