pub mod EscapedText
pub mod Names
mod NotBack
pub mod Results
pub mod Rows
pub mod Takes
pub mod UnquotedValues
