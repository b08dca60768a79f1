pub mod Words
pub mod Going
pub mod Answers
