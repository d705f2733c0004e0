pub mod Calls
pub mod Histories
pub mod Looks
pub mod Publishing
pub mod Showing
pub mod Values
