-- The list of first places, filled.
pub mod Fill
