-- Asking for lost lines.
pub mod Runs
pub mod Requests
pub mod RequestLines
pub mod RequestRules
pub mod Resends
pub mod Repairs
pub mod Rounds
pub mod RequestNumbers
pub mod Possible
