-- Laws of the list of first places.
pub mod FillLaws
