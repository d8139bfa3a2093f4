pub mod Keeps
pub mod Offsets
pub mod Beyond
pub mod Rows
pub mod Sweeps
pub mod Instances
