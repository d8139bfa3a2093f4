pub mod Search
pub mod Fingerprints
