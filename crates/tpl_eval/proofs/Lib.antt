pub mod Arguments
pub mod Copies
pub mod Indexing
pub mod NewestNumbers
pub mod NotNewest
pub mod Operands
pub mod Piped
pub mod StepsGrow
