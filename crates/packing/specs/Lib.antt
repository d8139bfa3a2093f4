pub mod Joined
pub mod inner
