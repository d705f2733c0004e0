pub mod Adding
pub mod Appends
pub mod Blocks
pub mod EdgeNodes
pub mod Examples
pub mod OneWalk
