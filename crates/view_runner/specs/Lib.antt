pub mod Texts
pub mod Replies
pub mod Running
pub mod Rows
pub mod Theorems
