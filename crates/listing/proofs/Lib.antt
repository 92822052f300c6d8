pub mod Digits
pub mod Lines
pub mod Passing
pub mod Text
pub mod Determined
