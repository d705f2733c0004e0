pub mod Lines
pub mod Parsed
pub mod Pipes
pub mod Replaced
pub mod Spelling
