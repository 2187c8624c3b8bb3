-- What the crates above cite of these proofs, and all that they may.
pub use Rattle.segment_merge.proofs.Cover.{parts_merge}
pub use Rattle.segment_merge.proofs.LenientRefusals.{merged_or_conflict, one_conflict}
pub use Rattle.segment_merge.proofs.LenientRows.{merged_none}
pub use Rattle.segment_merge.proofs.OneLenient.{one_lenient}
pub use Rattle.segment_merge.proofs.OneRefusal.{merged_or_refused, one_refusal}
pub use Rattle.segment_merge.proofs.Pass.{nothing_merged}
pub use Rattle.segment_merge.proofs.Places.{Places, later, one, places, sooner}
pub use Rattle.segment_merge.proofs.Unique.{one_merged}
pub use Rattle.segment_merge.proofs.Whole.{run_ascends}
pub use Rattle.wal_base.proofs.Laws.{none_within, within_cases, within_head, within_tail}
