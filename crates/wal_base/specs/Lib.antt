pub mod Faults
pub mod Told
pub mod Memory
pub mod Prefixes
