pub mod Evaluating
pub mod Functions
pub mod Newest
pub mod PipeCalls
pub mod Scopes
pub mod Selectors
pub mod Values
pub mod VariablesCode
