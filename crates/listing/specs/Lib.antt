-- The listing of received bytes.
pub mod Listing
