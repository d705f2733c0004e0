pub mod Prefixes
pub mod Publications
