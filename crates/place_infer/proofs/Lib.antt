pub mod EdgeEnds
pub mod FoundCharts
pub mod JudgedCharts
pub mod KeptCalls
pub mod KeptLaws
pub mod SameForests
pub mod WithoutErrors
