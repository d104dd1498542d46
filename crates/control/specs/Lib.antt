-- The control words after a telegram.
pub mod Control
