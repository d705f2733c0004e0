pub mod Filling
pub mod Standing
