-- Contexts (places): how they join, what members they have, and which errors a path shows.
pub mod ApartPlaces
pub mod Errors
pub mod JoinLaws
pub mod Membership
pub mod PathPairs
pub mod LanguagePlaces
pub mod LastLexeme
pub mod Places
pub mod ScriptParts
pub mod StatePlaces
pub mod StyleParts
pub mod UrlParts
