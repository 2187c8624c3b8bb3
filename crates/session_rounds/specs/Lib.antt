pub mod Acts
pub mod Transcripts
pub mod Playing
pub mod Turns
pub mod Legality
pub mod Parts
pub mod Lent
pub mod Players
