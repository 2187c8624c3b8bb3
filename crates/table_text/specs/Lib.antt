pub mod Tables
pub mod Reading
pub mod Writing
pub mod Theorems
