pub mod Kept
pub mod Replaced
pub mod Rows
