mod Appended
mod Characters
mod JsonNumbers
pub mod JsonReads
mod JsonStrings
mod JsonTokens
mod Left
mod NotBack
mod Once
pub mod WrittenLess
pub mod WrittenScripts
