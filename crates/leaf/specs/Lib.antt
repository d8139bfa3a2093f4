pub mod Abs
pub mod Maximum
pub mod Root
pub mod Nearest
pub mod inner
