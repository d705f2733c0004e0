pub mod BackOffice
pub mod Clerks
pub mod Learning
pub mod Reloads
pub mod Replies
