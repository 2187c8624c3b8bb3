pub mod Laws
mod Parts
mod IsKeptAs
mod Beside
mod Fits
mod Polls
mod FramesFrom
mod StartsOn
mod Limits
