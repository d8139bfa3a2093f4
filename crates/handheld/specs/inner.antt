pub mod Numbers
pub mod Triangle
pub mod Choice
pub mod Steps
pub mod Blocks
