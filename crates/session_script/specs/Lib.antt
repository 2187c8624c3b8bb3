pub mod Words
pub mod Spelled
pub mod Lines
pub mod Next
pub mod Script
pub mod Drafts
pub mod Theorems
