pub mod Factor
pub mod Twins
pub mod Answers
pub mod Once
pub mod Cut
pub mod AnyRun
