pub mod Load
pub mod EveryNth
pub mod Theorems
