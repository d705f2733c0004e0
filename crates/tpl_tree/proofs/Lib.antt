pub mod Listings
pub mod Named
pub mod Numbers
pub mod Seams
pub mod Smaller
