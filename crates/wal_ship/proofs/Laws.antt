-- What the crates above cite of these proofs, and all that they may.
pub use Rattle.wal_ship.proofs.Cutting.{IsOneBatch, same_frame, some_frame}
pub use Rattle.wal_ship.proofs.Outcomes.{IsOneOutcome, bytes_come_to_one, comes_to_one, rows_taken}
pub use Rattle.wal_ship.proofs.Rows.{frames_snoc, joins_once, joins_or_wrong, one_wrong, rows_behind, rows_contiguous, rows_then}
pub use Rattle.wal_ship.proofs.Streams.{streams_taken, written_frame}
pub use Rattle.wal_ship.proofs.Union.{frames_are_union}
