pub mod Tray
pub mod Alone
pub mod inner
