-- What the crates above cite of these proofs, and all that they may.
pub use Rattle.session_rounds.proofs.HavePlayed.{none_played, none_noted, noted_then}
