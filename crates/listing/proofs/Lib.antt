pub mod Progress
pub mod Sizes
