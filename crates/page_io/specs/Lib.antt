pub mod BytesCode
pub mod Causes
pub mod FolderContents
pub mod Keys
pub mod Lines
pub mod Stacks
pub mod Stops
pub mod Whole
