pub mod Apart
pub mod Moving
pub mod Replays
pub mod UnchosenWays
