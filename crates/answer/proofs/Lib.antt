pub mod Back
pub mod Done
pub mod Tested
pub mod Tests
pub mod Within
