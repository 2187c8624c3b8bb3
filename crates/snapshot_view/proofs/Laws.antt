-- What the crates above cite of these proofs, and all that they may.
pub use Rattle.snapshot_view.proofs.Holding.{held_there, held_within, held_stands, held_last, held_still, held_no_more, one_at}
