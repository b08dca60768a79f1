pub mod Feeding
pub mod Hearing
pub mod Keeping
pub mod Sounding
