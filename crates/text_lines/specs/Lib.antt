pub mod Printed
pub mod Pieces
pub mod Lines
pub mod Refusals
pub mod Store
pub mod Holding
