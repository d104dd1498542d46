-- A view shows exactly the records of its table.
pub mod ViewShows
pub mod KnownViews
pub mod HeldTable
