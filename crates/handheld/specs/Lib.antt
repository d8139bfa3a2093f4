pub mod Shapes
pub mod Promise
pub mod inner
