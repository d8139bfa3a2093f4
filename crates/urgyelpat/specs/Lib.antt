pub mod Passed
pub mod Calls
