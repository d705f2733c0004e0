pub mod DoorWorks
mod Examples
pub mod LinkByLink
