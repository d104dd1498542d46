-- Laws of a view.
pub mod ViewLaws
