pub mod Walks
pub mod Indexes
pub mod Numbering
pub mod Finding
pub mod Behind
