-- How a call goes, from its first make to its end.
pub mod Steps
pub mod Giving
pub mod Giveups
pub mod Pieces
pub mod Growing
pub mod Aparts
pub mod Ends
