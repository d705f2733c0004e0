mod ScriptBytes
mod ScriptEscapes
mod ScriptEvidenceExamples
mod ScriptScanExamples
mod ScriptTextExamples
mod ScriptWithin
pub mod FirstCauses
pub mod FirstCharacter
pub mod KeptAnswers
pub mod KeptScans
pub mod KeptWordSteps
pub mod LineBytes
pub mod LongEscapes
pub mod MemberKinds
pub mod NextSenses
pub mod OneScriptPath
pub mod OneScriptText
pub mod OpenLiterals
pub mod ScriptClash
pub mod ScriptEvidence
pub mod ScriptGrowth
pub mod ScriptMembers
pub mod ScriptPaths
pub mod ScriptRoom
pub mod ScriptTextValidity
pub mod SensePoints
pub mod SensesBelow
pub mod SharedStates
pub mod ShownCodes
pub mod ShownText
pub mod SlashComments
pub mod SlashSteps
pub mod TailEvidence
pub mod TailsGrowth
pub mod UnitedSenses
pub mod ValidScripts
pub mod WhiteBytes
