pub mod Put
pub mod Page
pub mod Asked
pub mod inner
