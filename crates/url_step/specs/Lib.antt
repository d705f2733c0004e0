pub mod Chains
pub mod PartLaws
pub mod PartOrigins
pub mod PartSets
pub mod PartTexts
pub mod TextLaws
