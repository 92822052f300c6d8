pub mod Sound
pub mod Front
