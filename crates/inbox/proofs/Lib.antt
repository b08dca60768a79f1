pub mod Highs
pub mod Marks
pub mod Sums
pub mod Zeros
pub mod Answered
