-- Laws of the control words.
pub mod ControlLaws
