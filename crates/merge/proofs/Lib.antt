pub mod Count
pub mod Next
pub mod Parted
pub mod Stores
pub mod Turn
pub mod Merging
