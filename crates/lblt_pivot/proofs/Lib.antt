pub mod Interchanges
pub mod Updates
pub mod Entries
pub mod Pairs
pub mod Pivots
pub mod Begins
