pub mod Evidences
pub mod OpenCalls
pub mod OwnPlaces
pub mod Replaying
pub mod Tellings
pub mod UnchosenLeads
