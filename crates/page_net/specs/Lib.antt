pub mod Doors
pub mod Loans
pub mod Nets
pub mod Tellings
