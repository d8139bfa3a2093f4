pub mod Twins
pub mod First
pub mod Batches
pub mod Number
pub mod inner
