pub mod Rows
pub mod Layings
