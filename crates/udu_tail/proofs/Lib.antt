pub mod Past
pub mod Shifted
pub mod Zeroed
pub mod Tail
