-- Laws of the lines of a text and of the bytes of a line.
pub mod HexLaws
