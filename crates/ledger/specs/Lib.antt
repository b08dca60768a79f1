pub mod Numbers
pub mod Ledger
pub mod Steps
pub mod Faults
pub mod Parts
