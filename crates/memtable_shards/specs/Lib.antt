pub mod Versions
pub mod Newest
pub mod Pieces
pub mod Parts
pub mod Moving
pub mod Theorems
