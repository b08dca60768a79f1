-- Listing and delta.
pub mod Turns
pub mod Pending
pub mod Leaning
pub mod Rows
pub mod Listings
pub mod Picks
pub mod Deltas
pub mod DeltaRoom
pub mod Cutting
