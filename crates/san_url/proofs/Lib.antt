mod Fronts
mod Opening
pub mod Parts
mod Runs
pub mod WrittenAscii
