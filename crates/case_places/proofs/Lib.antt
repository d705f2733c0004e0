pub mod CharacterCounts
pub mod ParsedFiles
