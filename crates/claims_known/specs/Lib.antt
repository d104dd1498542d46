-- The known telegrams K1 to K12.
pub mod Telegrams
pub mod Known
