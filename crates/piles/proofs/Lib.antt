pub mod Sums
pub mod Facts
pub mod Promises
pub mod Same
