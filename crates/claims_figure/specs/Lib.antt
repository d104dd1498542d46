-- What a figure says of the two whole numbers, the word's product and 16384.
pub mod Exact
pub mod Known
