pub mod NoNan
pub mod Choices
pub mod Range
