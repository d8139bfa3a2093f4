pub mod Plain
pub mod Batches
pub mod Arriving
pub mod Counts
