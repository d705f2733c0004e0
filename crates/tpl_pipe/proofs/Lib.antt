pub mod Onto
pub mod PipeLeads
pub mod PipeSays
pub mod VariableNumbers
