-- What the crates above cite of these proofs, and all that they may.
pub mod Laws
mod Covers
mod Places
mod Follows
mod InTurn
mod BySessions
mod Courses
mod AreOwned
mod IsLegalRound
mod AreLegal
mod IsSeen
mod DeathLasts
mod Noted
mod PlaysTurn
mod AreDealt
mod Played
mod AllPlayed
mod Sharing
mod HavePlayed
mod FirstReads
mod EndsPlay
