pub mod Numbers
pub mod Lists
pub mod Calls
pub mod Meaning
