pub mod Grammar
pub mod Levels
pub mod Reading
pub mod Runs
pub mod Variables
