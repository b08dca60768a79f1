-- The rules against plain ordered maps: entries, order, room, balance.
pub mod Entries
pub mod Joins
pub mod Splits
pub mod Sizes
pub mod Unions
pub mod Fits
pub mod Differences
pub mod Orders
pub mod Keeping
pub mod Steady
pub mod Room
pub mod Cancel
pub mod Rotations
pub mod Balances
