-- The known telegrams, proved.
pub mod KnownHolds
