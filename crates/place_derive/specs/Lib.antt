pub mod Derivations
pub mod FirstConflicts
pub mod Logs
pub mod Soundness
pub mod Tracing
