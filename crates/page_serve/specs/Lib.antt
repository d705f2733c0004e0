pub mod DoorMoves
pub mod Seating
pub mod ServeAnswers
pub mod SummaryLines
pub mod Workers
