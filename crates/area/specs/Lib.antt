pub mod Area
pub mod Notes
pub mod Turns
