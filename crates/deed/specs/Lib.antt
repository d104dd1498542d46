-- What a task asks of a parameter, as document 01 has it.
pub mod Deed
