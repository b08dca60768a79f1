pub mod Rows
pub mod Cursors
