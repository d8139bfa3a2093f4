pub mod Promise
pub mod Beside
pub mod inner
