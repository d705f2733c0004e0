mod Ascii
mod Runs
mod Undoes
mod Words
pub mod WrittenText
