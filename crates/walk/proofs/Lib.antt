pub mod Cases
pub mod Piles
pub mod Outputs
pub mod Acts
pub mod Goings
pub mod Changes
