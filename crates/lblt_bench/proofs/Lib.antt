pub mod Listed
pub mod Stretches
pub mod Once
pub mod Unfelt
pub mod Both
