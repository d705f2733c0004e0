pub mod ChartedRoots
pub mod OneExecution
pub mod SetPages
