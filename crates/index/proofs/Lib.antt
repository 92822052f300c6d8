pub mod Stores
pub mod Search
