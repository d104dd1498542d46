-- Laws of XOR, and of the XOR of a list.
pub mod XorLaws
pub mod BccLaws
