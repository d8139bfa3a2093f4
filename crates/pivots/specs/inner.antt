pub mod Block
pub mod Found
