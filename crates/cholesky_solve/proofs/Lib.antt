pub mod Pairs
pub mod Forward
pub mod Back
pub mod Keeps
