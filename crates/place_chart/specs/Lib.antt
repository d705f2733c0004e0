pub mod Charts
pub mod Conflicts
pub mod Exact
pub mod Least
pub mod Numbers
pub mod Roots
pub mod Summaries
pub mod Unique
