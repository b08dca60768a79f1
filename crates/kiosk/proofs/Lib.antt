pub mod Testing
pub mod Finding
pub mod Moving
pub mod Writing
pub mod Calling
pub mod Receiving
pub mod Refusals
