-- Laws of a word's products and of the double.
pub mod ScaleLaws
