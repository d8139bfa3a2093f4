pub mod Growing
pub mod GridAlone
pub mod Chain
