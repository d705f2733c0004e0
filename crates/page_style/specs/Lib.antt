pub mod Changes
pub mod Parts
pub mod Pieces
pub mod Reading
pub mod StyleUrls
pub mod Views
