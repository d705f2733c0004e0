pub mod GatheredDefs
pub mod NotRefused
pub mod OneForest
pub mod OneList
pub mod ParsedForests
pub mod RootStarts
pub mod RootTemplates
