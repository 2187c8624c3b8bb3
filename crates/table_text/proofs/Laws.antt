-- What the crates above cite of these proofs, and all that they may.
pub use Rattle.table_text.proofs.Live.{stands_for_store}
pub use Rattle.table_text.proofs.Prefixes.{no_other_table}
pub use Rattle.table_text.proofs.OneTable.{ends_at_next, no_part, one_table, same_table, written_is_read}
pub use Rattle.table_text.proofs.Numbers.{enough}
pub use Rattle.table_text.proofs.PartOrWhole.{part_or_whole}
pub use Rattle.table_text.proofs.WithinLimits.{batches_within, live_within}
