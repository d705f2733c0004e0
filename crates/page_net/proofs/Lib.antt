mod Examples
pub mod Firsts
