pub mod Bits
pub mod Calls
pub mod Table
pub mod Twins
pub mod Teaching
pub mod Handheld
pub mod Tray
