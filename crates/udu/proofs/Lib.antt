pub mod Entries
pub mod Crossing
pub mod Holding
pub mod Reached
pub mod Sizes
pub mod Unique
