pub mod Adding
pub mod Calls
pub mod Follows
