pub mod Examples
pub mod FunctionNames
pub mod Lengths
pub mod LineLaws
pub mod LowLines
pub mod MarkLaws
pub mod Puts
