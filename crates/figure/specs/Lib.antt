-- The figure that a panel shows of a process word.
pub mod Figures
