pub mod Counts
pub mod Room
pub mod Steps
pub mod Pages
