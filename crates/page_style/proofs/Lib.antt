pub mod Cuts
pub mod Growing
pub mod PartReads
pub mod Past
pub mod Together
