pub mod Explained
pub mod Marks
pub mod NamedCalls
pub mod NodeLines
pub mod OneText
pub mod Orders
pub mod Reaching
