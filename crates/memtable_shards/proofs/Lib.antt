pub mod Laws
mod Limits
mod Numbers
mod Newer
mod Reading
mod Answering
mod Counting
mod Places
mod Cutting
mod Handing
mod MayWait
mod Settling
mod IsShard
mod Applying
mod Touching
mod Rigs
