pub mod Judging
pub mod Cutting
pub mod Finding
pub mod Forming
pub mod Choices
pub mod Choosing
