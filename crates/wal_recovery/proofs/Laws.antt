-- What the crates above cite of these proofs, and all that they may.
pub use Rattle.wal_recovery.proofs.WalsMerge.{listed_some, wals_more}
pub use Rattle.wal_recovery.proofs.Base.{base_ends, base_goes_on, goes_on_first, ends_behind, no_base, none_onto, one_refused, onto_none}
pub use Rattle.wal_recovery.proofs.OneAnswer.{recovers_once, recovers_once_from}
pub use Rattle.wal_recovery.proofs.OneLenient.{lenient_once_after, lenient_or_refused, lenient_or_refused_after, lenient_refused_once_after}
pub use Rattle.wal_recovery.proofs.OneRefusal.{recovered_or_refused, recovered_or_refused_from}
pub use Rattle.wal_recovery.proofs.RecoversBy.{not_both, recovers_by_once}
pub use Rattle.wal_recovery.proofs.IsStable.{same_then}
pub use Rattle.wal_recovery.proofs.LastItem.{last_cut}
pub use Rattle.wal_recovery.proofs.Further.{recovers_further}
pub use Rattle.wal_recovery.proofs.StableImages.{reads_sent, image_has_file, stable_recovers, rested_above, read_synced, rested_synced}
pub use Rattle.wal_recovery.proofs.ImagesFrom.{stable_recovers_from}
pub use Rattle.wal_recovery.proofs.SameSegments.{recovers_alike, recovers_none, none_recovered}
pub use Rattle.wal_recovery.proofs.ReadsAsImage.{ReadsAsImage, rested_reads}
pub use Rattle.wal_recovery.proofs.NextWals.{IsListedOn, none_after_last, stands_listed, listed_stands}
