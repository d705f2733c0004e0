-- The page lexer of the HTML Standard, and what it reads: classes, states, events, references, and plain text.
pub mod Characters
pub mod Classes
pub mod Comments
pub mod Contents
pub mod Events
pub mod Html
pub mod Offsets
pub mod Paths
pub mod Plain
pub mod References
pub mod Shape
pub mod States
pub mod Tags
pub mod Utf8
pub mod Words
