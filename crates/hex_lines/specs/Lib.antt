-- The lines of a text, and the bytes that a line has in hexadecimal.
pub mod HexLines
