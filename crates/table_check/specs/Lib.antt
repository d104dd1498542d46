-- The rules of a table and its values, one after the other, and what a check tells of the first that is broken.
pub mod RuleNumbers
pub mod Checks
pub mod Faults
