mod KeptRuns
mod Looking
pub mod Runs
