pub mod Names
pub mod page
pub mod place
