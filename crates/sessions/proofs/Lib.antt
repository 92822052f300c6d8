pub mod Pages
pub mod Sound
pub mod Answers
