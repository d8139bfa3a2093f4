pub mod Keeps
pub mod Blocks
pub mod Rows
pub mod Early
pub mod ColumnBlocks
