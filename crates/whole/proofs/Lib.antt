pub mod Whole
pub mod Sound
pub mod Stored
