-- What the crates above cite of these proofs, and all that they may.
pub use Rattle.failover_writer.proofs.KeepsRun.{run_kept_now}
pub use Rattle.failover_writer.proofs.IsOpening.{recovered_opens}
pub use Rattle.failover_writer.proofs.RecoversTo.{base_recovers, none_of_opening}
pub use Rattle.failover_writer.proofs.ReadsAsImage.{reads_as_image}
pub use Rattle.failover_writer.proofs.Segments.{not_theirs, synced_within}
pub use Rattle.failover_writer.proofs.StandsFor.{same_stands, len_is}
pub use Rattle.failover_writer.proofs.Accounted.{counts_leave_few}
pub use Rattle.failover_writer.proofs.ByCalls.{TellCalls, tell_calls, given_up_told, gives_up_told}
pub use Rattle.failover_writer.proofs.Covers.{rose_by_less}
pub use Rattle.failover_writer.proofs.Outcome.{unbegun_on, outcome_begun, outcome_roomier, outcome_added, outcome_further, outcome_stalled, outcome_recovers}
