pub mod Values
pub mod Eights
pub mod Reading
pub mod Writing
pub mod Parsing
pub mod Decoding
