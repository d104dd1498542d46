-- Laws of pages.
pub mod PageLaws
