pub mod Cut
pub mod Guess
pub mod Scaled
