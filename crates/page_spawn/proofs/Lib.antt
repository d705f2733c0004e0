pub mod Completing
pub mod EachLaws
pub mod Examples
pub mod Stacks
