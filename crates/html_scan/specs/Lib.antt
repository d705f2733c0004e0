pub mod BrokenReferences
pub mod ClassViews
pub mod ScanViews
pub mod Scans
pub mod ScriptPlaces
pub mod ScriptStepViews
pub mod Slices
