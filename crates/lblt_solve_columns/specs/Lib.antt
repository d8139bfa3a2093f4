pub mod Column
pub mod inner
