pub mod Rows
pub mod Working
pub mod Promises
pub mod Beside
