-- Laws of one record.
pub mod CountLaws
