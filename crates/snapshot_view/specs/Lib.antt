pub mod Scans
pub mod Views
pub mod Building
pub mod Theorems
