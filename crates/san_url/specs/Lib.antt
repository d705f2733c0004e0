pub mod Back
pub mod Runs
pub mod Stays
