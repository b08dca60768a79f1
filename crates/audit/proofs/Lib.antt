pub mod Words
pub mod Marks
pub mod Roots
pub mod Parts
pub mod Passes
pub mod Trims
pub mod Cuts
pub mod FreshWords
