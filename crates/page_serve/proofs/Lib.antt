pub mod DoorMoving
pub mod Examples
pub mod ForgottenClerks
pub mod Queues
pub mod ServedDoors
pub mod ServeResults
