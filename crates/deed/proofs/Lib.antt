-- Laws of deeds.
pub mod DeedLaws
pub mod ReplyLaws
