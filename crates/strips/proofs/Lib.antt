pub mod Strips
pub mod Gathering
pub mod FromFn
