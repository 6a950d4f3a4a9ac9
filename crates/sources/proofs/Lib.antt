pub mod Filling
pub mod Hear
pub mod Paying
pub mod Reading
