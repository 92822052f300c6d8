pub mod Fields
pub mod Room
pub mod Entries
pub mod Stands
pub mod Front
