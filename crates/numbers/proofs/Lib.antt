pub mod Page
pub mod Widths
