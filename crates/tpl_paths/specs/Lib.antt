pub mod EdgeViews
pub mod Edges
pub mod Laws
pub mod Paths
