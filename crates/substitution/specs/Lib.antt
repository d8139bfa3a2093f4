pub mod Steps
pub mod inner
