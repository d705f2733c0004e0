pub mod ParsedFiles
