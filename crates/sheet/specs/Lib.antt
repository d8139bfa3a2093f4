pub mod Respond
pub mod Warn
pub mod inner
