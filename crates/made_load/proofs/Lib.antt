pub mod Laws
mod EveryNth
mod Limits
mod LoadEntries
mod LoadMade
mod LoadRounds
mod LoadTexts
