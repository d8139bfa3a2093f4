pub mod Engine
pub mod Three
