pub mod Signed
pub mod Records
pub mod Lists
pub mod Tests
pub mod Rounds
pub mod Once
pub mod Exactly
pub mod Exchanges
