pub mod Words
pub mod Tables
pub mod Prototypes
pub mod Checks
pub mod Readers
pub mod Definitions
pub mod Reads
pub mod Lookups
