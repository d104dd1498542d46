-- Laws of the listing, its length, and known listings.
pub mod ListingLaws
pub mod LengthLaws
pub mod KnownListings
