pub mod Fields
pub mod Alternate
pub mod Eights
