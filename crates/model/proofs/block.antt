-- One block for sixteen trees: heaps, and the words that are one.
pub mod Loads
pub mod Counts
pub mod Reach
pub mod Bound
pub mod Lookups
pub mod Sums
pub mod Totals
pub mod Words
pub mod Bits
pub mod Unique
pub mod Tested
pub mod Small
pub mod Cases
pub mod Pinned
pub mod Versions
pub mod FreshBlock
