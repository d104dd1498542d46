-- How a master reads replies.
pub mod Reply
