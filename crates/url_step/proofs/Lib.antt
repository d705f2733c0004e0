pub mod Covering
pub mod Growth
pub mod OnePath
pub mod OneText
pub mod Origins
mod PartExamples
pub mod Shown
pub mod TextCovering
pub mod TextGrowth
pub mod ValidParts
pub mod ValidTexts
pub mod WordLetters
