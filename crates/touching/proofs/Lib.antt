pub mod Copies
pub mod Touches
pub mod Loop
pub mod Counting
