mod ByteLaws
mod ChangedSteps
pub mod ContentKeeps
pub mod Declared
mod ElementsSame
pub mod Emits
pub mod EmittedAlike
mod EndLaws
mod FilledEvents
pub mod FilledMarks
pub mod FilledReadings
mod FillingExamples
mod HarmlessNames
pub mod HoleKeeps
pub mod HolesLead
pub mod Keeps
mod Kept
pub mod LanguagesKeep
mod Loops
pub mod PagesFill
pub mod PiecesKeep
pub mod Places
mod ReadBeside
mod Rests
pub mod Runs
pub mod Same
mod ScriptBacks
mod ScriptBeforeLess
mod ScriptByteKept
mod ScriptByteReads
mod ScriptByteWrites
mod ScriptChanges
pub mod ScriptCodeSteps
mod ScriptElementEnds
pub mod ScriptElementHoles
mod ScriptElementKeeps
mod ScriptElementLeads
pub mod ScriptElementPromises
mod ScriptElementReads
pub mod ScriptElementStands
mod ScriptElementSteps
mod ScriptElementWords
mod ScriptElementsSame
mod ScriptFillingExamples
pub mod ScriptHoles
mod ScriptHolesTold
mod ScriptLeads
mod ScriptLeadsTells
pub mod ScriptLessFed
mod ScriptNamesCut
mod ScriptNodeEnds
pub mod ScriptPages
mod ScriptPending
mod ScriptProgress
mod ScriptRunKept
mod ScriptScansWrite
mod ScriptStepKept
mod ScriptTellsThere
mod ScriptTokenSteps
mod ScriptValuesKeep
mod ScriptWordKept
mod ScriptWritten
pub mod ScriptsKeep
pub mod SlashReads
mod Slices
mod Spelled
mod StatesBeside
mod Steps
mod StyleElementFirst
pub mod StyleElementHoles
pub mod StyleElementKeeps
mod StyleElementLeads
mod StyleElementPromises
mod StyleElementRaw
mod StyleFillingExamples
pub mod StyleHoles
mod StyleLeads
mod StyleRaw
mod StyleScanBytes
mod StyleScanWaits
mod StyleTells
mod StyleTexts
mod StyleValuesKeep
pub mod StyleWaits
mod SureStates
pub mod TagsKeep
pub mod TextKeeps
pub mod ToyLanguage
mod UrlHoles
pub mod ValuesKeep
pub mod WorkedTexts
mod WritingsAlike
