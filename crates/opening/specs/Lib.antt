-- The rules of a table and its values, what the host lends, and the answers of the opening check.
pub mod Lent
pub mod Rules
pub mod Answers
