pub mod Writer
pub mod Parts
pub mod Fits
pub mod Kept
pub mod Steps
pub mod Sending
pub mod Promises
pub mod Theorems
