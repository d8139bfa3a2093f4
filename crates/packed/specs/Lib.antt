pub mod Growing
pub mod Chain
