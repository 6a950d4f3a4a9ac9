pub mod Shapes
pub mod Show
