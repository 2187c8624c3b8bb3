pub mod Flights
pub mod Seen
pub mod Refusals
pub mod Paths
pub mod Held
pub mod Locked
pub mod Found
