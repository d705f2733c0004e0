pub mod ByChart
pub mod Laws
pub mod Pages
pub mod Soundness
pub mod Taken
pub mod Textual
