-- What the crates above cite of these proofs, and all that they may.
pub use Rattle.shard_gate.proofs.AppliesAll.{can_mark}
