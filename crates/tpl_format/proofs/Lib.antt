pub mod Digits
pub mod Examples
pub mod Pieces
pub mod SpellingReads
pub mod SpellingStands
pub mod Steps
