pub mod DataPlain
pub mod DataRead
pub mod CommentBlanks
pub mod CommentsStand
mod Examples
mod HoleExamples
pub mod JsonText
pub mod Keeps
pub mod InnerWords
pub mod LessReads
mod LimitExamples
mod Literals
mod NotPlain
pub mod OpenBytes
pub mod PageScriptsStand
mod Paged
pub mod PartsOfComments
mod PlainExamples
pub mod ReadBack
mod RefusalExamples
pub mod RegexpBytes
mod SanitizerExamples
pub mod ScriptKinds
pub mod ScriptReleases
mod ShownPlaces
pub mod Spaces
pub mod StringBytes
pub mod Told
pub mod ValueBytes
pub mod WordsStand
pub mod WrittenKeeps
