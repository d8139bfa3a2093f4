pub mod Digit
pub mod Parse
pub mod Line
pub mod Next
pub mod Read
