-- Tests, lists and maps.
pub mod Compare
pub mod Tests
pub mod Tells
pub mod Members
pub mod Sorts
pub mod Finds
pub mod Maps
