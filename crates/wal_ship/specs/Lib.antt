pub mod Stream
pub mod Following
pub mod Course
pub mod Taking
pub mod Theorems
