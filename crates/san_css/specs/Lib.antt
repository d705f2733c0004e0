pub mod Strings
pub mod Undoing
