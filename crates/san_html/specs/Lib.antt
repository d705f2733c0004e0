pub mod ReadBack
pub mod Sanitizers
