pub mod Stores
pub mod ByRow
pub mod Across
