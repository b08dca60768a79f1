-- Lines, inbox and replica.
pub mod Digits
pub mod Lines
pub mod Texts
pub mod Faults
pub mod Frames
pub mod Heard
pub mod Missing
pub mod Replicas
pub mod Receiving
pub mod Stores
pub mod Standbys
pub mod Reading
