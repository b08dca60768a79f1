-- The calls in a user's words.
pub mod Checks
pub mod Once
pub mod Meanings
pub mod Drifts
pub mod Refusals
pub mod Zeros
pub mod Batches
pub mod Builds
pub mod Restores
pub mod Histories
pub mod Depths
pub mod ResendDepth
