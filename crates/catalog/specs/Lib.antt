pub mod Entries
pub mod Chained
