pub mod Answer
pub mod Number
pub mod Refusals
