pub mod Bench
pub mod Unfelt
pub mod inner
