pub mod DoorSteps
pub mod DoorWork
pub mod DoorWorkers
pub mod LinksServed
pub mod Summaries
