pub mod Rounds
pub mod Works
pub mod Runs
