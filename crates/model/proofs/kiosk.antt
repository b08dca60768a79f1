-- The kiosk beside the table.
pub mod Shallow
pub mod Pairs
pub mod Kiosks
