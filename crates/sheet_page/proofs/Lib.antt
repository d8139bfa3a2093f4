pub mod PutLaws
pub mod Wrote
pub mod Loops
pub mod PageText
pub mod RoundTrip
pub mod PageLength
