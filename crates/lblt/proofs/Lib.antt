pub mod Earlier
pub mod Stands
pub mod Going
pub mod Done
pub mod Accepted
pub mod Overwritten
pub mod Runs
pub mod Inside
