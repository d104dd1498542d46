-- A view of a table.
pub mod View
