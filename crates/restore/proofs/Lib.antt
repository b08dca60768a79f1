pub mod Building
pub mod Looking
pub mod Ends
