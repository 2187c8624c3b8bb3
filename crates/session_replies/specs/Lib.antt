pub mod Rounds
pub mod Replies
pub mod Legal
pub mod Lasting
pub mod Theorems
