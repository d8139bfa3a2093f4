pub mod Columns
pub mod Promise
pub mod inner
