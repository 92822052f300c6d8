pub mod Flags
pub mod Fields
