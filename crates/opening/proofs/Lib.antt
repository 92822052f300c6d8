pub mod Creation
pub mod Locking
