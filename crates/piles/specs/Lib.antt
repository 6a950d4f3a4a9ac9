pub mod Prices
pub mod Requests
