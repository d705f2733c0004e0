pub mod Comparing
pub mod Lengths
pub mod Picking
pub mod Slicing
pub mod Truth
