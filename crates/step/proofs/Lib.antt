-- Laws of one item.
pub mod StepLaws
