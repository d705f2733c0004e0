pub mod Building
pub mod Gathering
