pub mod Advancing
pub mod Freshness
pub mod Ending
