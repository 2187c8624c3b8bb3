pub mod Words
pub mod Cutting
pub mod Next
