pub mod United
pub mod Words
pub mod Narrowed
pub mod Numbers
