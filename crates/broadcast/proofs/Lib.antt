-- Laws of masks, and of broadcasts that are not void.
pub mod MaskLaws
pub mod VoidLaws
