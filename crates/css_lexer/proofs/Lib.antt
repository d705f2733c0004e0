mod CodeIsBack
mod Examples
mod NotExamples
pub mod RawReading
mod StringsAreBack
pub mod StylesKeep
pub mod StylesOfUrls
mod UrlsStay
pub mod WrittenKeeps
