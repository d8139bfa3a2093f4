pub mod Found
pub mod Computed
pub mod TwinAnswers
