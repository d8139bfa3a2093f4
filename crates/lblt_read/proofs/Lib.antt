pub mod Entrywise
pub mod Gathers
pub mod Squares
pub mod Steps
pub mod Admitted
pub mod Runs
pub mod PairsAlone
pub mod Once
