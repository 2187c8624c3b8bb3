pub mod Laws
mod Vectors
mod Limits
mod Steps
mod Entries
mod Words
mod Turns
mod Places
mod Chunks
mod Blocks
