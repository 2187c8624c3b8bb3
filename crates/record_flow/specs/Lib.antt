pub mod Views
pub mod Flows
pub mod Passes
pub mod Theorems
