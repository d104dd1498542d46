-- Pages, as document 01 has them.
pub mod Page
