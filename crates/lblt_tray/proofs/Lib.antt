pub mod Sizes
pub mod Items
pub mod Own
pub mod ThreeRows
pub mod Unfelt
