pub mod Marks
pub mod Edges
pub mod Steps
