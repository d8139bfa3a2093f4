pub mod Diagonal
pub mod Permuted
pub mod Calls
pub mod inner
