pub mod Scans
pub mod Nests
pub mod Joins
pub mod Commas
pub mod Fills
pub mod Splitting
