pub mod Interchange
pub mod Update
pub mod Pivot
pub mod inner
