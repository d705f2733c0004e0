pub mod Exactness
pub mod MeetingPoints
pub mod ShownErrors
pub mod Witness
