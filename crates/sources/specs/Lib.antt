pub mod Faults
pub mod Meaning
pub mod Lines
pub mod Replies
pub mod Hearings
pub mod Texts
