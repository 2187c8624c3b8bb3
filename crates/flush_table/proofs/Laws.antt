-- What the crates above cite of these proofs, and all that they may.
pub use Rattle.flush_table.proofs.OneStore.{used_once, store_once, store_or_refused, one_next_wal}
pub use Rattle.flush_table.proofs.RunOverStore.{none_of_next, run_over_store}
pub use Rattle.flush_table.proofs.Starting.{number_used, wal_used}
pub use Rattle.flush_table.proofs.Within.{IsRowOver, base_ends_at_next, row_over}
