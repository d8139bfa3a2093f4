pub mod Step
pub mod Factor
pub mod inner
