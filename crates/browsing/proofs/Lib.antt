pub mod Place
pub mod Steps
pub mod Determined
