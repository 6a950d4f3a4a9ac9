pub mod Rules
pub mod Engine
pub mod Delays
pub mod Running
pub mod Ends
