pub mod BreaksInRanges
pub mod ChartViews
pub mod Inferring
pub mod Kept
