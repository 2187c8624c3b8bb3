pub mod Desks
pub mod Ends
