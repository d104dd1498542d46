-- Laws of the check of a table.
pub mod CheckLaws
pub mod NumberLaws
pub mod RecordLaws
pub mod ValueLaws
pub mod KnownChecks
