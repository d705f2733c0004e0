mod Attacks
mod ByteFacts
mod Clashes
mod CodeSchemes
mod Examples
pub mod Language
mod NotExamples
mod QueryMarks
pub mod ReadBack
mod Reading
mod Spots
mod WholePages
mod WholeTriples
pub mod WrittenBytes
mod WrittenPages
