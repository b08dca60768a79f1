pub mod Balancing
pub mod Paths
pub mod Inserts
pub mod Removes
pub mod Told
pub mod Finds
pub mod Gathers
