pub mod Clauses
pub mod Rows
pub mod Fingerprints
pub mod Search
pub mod Answered
pub mod Unique
pub mod Batches
pub mod Exists
