pub mod Marked
pub mod Once
pub mod ColumnAlone
