-- What a view shows from step to step, known views, and the view that holds its table.
pub mod Walks
pub mod Known
pub mod HeldTable
