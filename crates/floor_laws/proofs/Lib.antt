pub mod Columns
pub mod Plain
pub mod Counts
pub mod Demand3
