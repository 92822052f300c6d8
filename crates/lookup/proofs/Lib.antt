pub mod Place
pub mod Determined
