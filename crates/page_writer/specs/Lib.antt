pub mod Composing
pub mod Outputs
pub mod Writing
