-- The theorems, in the order of docs/CONTRACTS.md.
pub mod maps
pub mod rules
pub mod block
pub mod running
pub mod listing
pub mod link
pub mod requests
pub mod calls
pub mod kiosk
