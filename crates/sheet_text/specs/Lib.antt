pub mod Text
pub mod Place
pub mod Sheet
pub mod inner
