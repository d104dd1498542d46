-- The areas of a telegram, as words and as they are read.
pub mod Net
pub mod Read
