pub mod Laws
mod Fragments
mod Chains
mod Rows
mod Laid
mod Replay
mod Pieces
mod Shows
mod Tiles
mod ReadsPrefix
mod Readable
mod Joined
mod Walked
mod Limits
mod OneReading
