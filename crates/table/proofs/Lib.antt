pub mod Admitting
pub mod Settling
pub mod Rules
