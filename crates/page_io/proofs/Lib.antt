pub mod Ascending
pub mod Feeds
pub mod Known
pub mod Taken
