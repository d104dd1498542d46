-- Laws of the records of a table.
pub mod RecordsLaws
pub mod PlacesLaws
