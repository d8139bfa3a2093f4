pub mod Words
pub mod Rule
pub mod Blocks
pub mod inner
