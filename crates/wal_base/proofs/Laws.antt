-- What the crates above cite of these proofs, and all that they may.
pub use Rattle.wal_base.proofs.Members.{none_within, within_cases, within_head, within_tail}
pub use Rattle.wal_base.proofs.Prefixes.{at_front, at_prefix, longer_prefix, prefix_same, prefix_take, prefix_taken, prefix_then, prefix_whole}
