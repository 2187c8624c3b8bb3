-- What a stop leaves of a journal at each moment of a call, and after it; and that it goes on to keep its base.
use Rattle.std.proofs.Common.{ℕ, Bool, List, IsTrue, sym, subst}
use Rattle.batch_repr.specs.declared.batch.Batch.{Batch}
use Rattle.disk_face.specs.View.{Files, DiskView, files, AtEachMoment}
use Rattle.failover_writer.specs.State.{State, JournalView, acked}
use Rattle.failover_writer.specs.Ranges.{StandsFor, KeepsRecords}
use Rattle.failover_writer.specs.Keeping.{KeepsRun, RecoversTo, HasNoSegment, IsOpenedOn, IsOpening, KeepsBase, Passes}
use Rattle.failover_writer.specs.Lasting.{Survives}
use Rattle.failover_writer.proofs.Passes.{Holds}
use Rattle.failover_writer.proofs.KeepsRun.{run_kept, run_kept_now}
use Rattle.failover_writer.proofs.RecoversTo.{base_recovers, none_of_opening}

module _ (tells : Bool) (old new : State) (before after : DiskView) (passes : Passes tells old new before after) where
  -- The base of a journal is kept.
  base_kept : (base : List Batch) → KeepsBase tells base old before → KeepsBase tells base new after
  base_kept base kept = record {
    opening = kept.opening;
    begun = subst (λ (n : ℕ). IsOpening n new.base base kept.opening) (sym passes.wal)
        (subst (λ (n : ℕ). IsOpening old.wal n base kept.opening) (sym passes.base) kept.begun);
    others = λ told. passes.others kept.opening told (kept.others told);
  }

  module _ (keeps : Holds tells old before new after) where
    run_at_moments : (records : List Batch) (opening : Files) → StandsFor tells records old before → IsOpenedOn opening old (files before) → IsTrue tells
        → AtEachMoment before.clock after (KeepsRun old.wal old.base records (acked old) opening)
    run_at_moments records opening stands opened told k low high =
        run_kept tells records opening old (after.history k) told opened.absent (passes.moments records opening stands told opened.others k low high)

    run_at_exit : (records : List Batch) (opening : Files) → StandsFor tells records old before → IsOpenedOn opening old (files before) → IsTrue tells
        → KeepsRun old.wal old.base records (acked new) opening (files after)
    run_at_exit records opening stands opened told =
        let still : IsOpenedOn opening new (files after) = record {
          absent = subst (λ (n : ℕ). HasNoSegment n opening) (sym passes.wal) opened.absent;
          others = passes.others opening told opened.others;
        } in
        let run : KeepsRun new.wal new.base records (acked new) opening (files after) = run_kept_now tells records opening new after told
        (keeps records stands) still in
        subst (λ (n : ℕ). KeepsRun old.wal n records (acked new) opening (files after)) passes.base
        (subst (λ (n : ℕ). KeepsRun n new.base records (acked new) opening (files after)) passes.wal run)

    opened_base : (base : List Batch) → (kept : KeepsBase tells base old before) → IsTrue tells → IsOpenedOn kept.opening old (files before)
    opened_base base kept told = record { absent = none_of_opening old.wal old.base base kept.opening kept.begun; others = kept.others told }

    base_at_moments : (records base : List Batch) → StandsFor tells records old before → KeepsBase tells base old before → IsTrue tells
        → AtEachMoment before.clock after (RecoversTo base records (acked old))
    base_at_moments records base stands kept told k low high =
        base_recovers old.wal old.base records base (acked old) kept.opening (after.history k) kept.begun
        (run_at_moments records kept.opening stands (opened_base base kept told) told k low high)

    base_at_exit : (records base : List Batch) → StandsFor tells records old before → KeepsBase tells base old before → IsTrue tells
        → RecoversTo base records (acked new) (files after)
    base_at_exit records base stands kept told =
        base_recovers old.wal old.base records base (acked new) kept.opening (files after) kept.begun
        (run_at_exit records kept.opening stands (opened_base base kept told) told)

-- All of it follows from what passes and what is kept.
pub survives : {Disk : Type 0} (tells : Bool) (view : Disk → DiskView) (old new : JournalView Disk) → KeepsRecords tells view old new
    → Passes tells old.state new.state (view old.disk) (view new.disk) → Survives tells view old new
survives tells view old new keeps passes = record {
  keeps_base = base_kept tells old.state new.state (view old.disk) (view new.disk) passes;
  recovers = base_at_moments tells old.state new.state (view old.disk) (view new.disk) passes keeps;
  recovers_at_exit = base_at_exit tells old.state new.state (view old.disk) (view new.disk) passes keeps;
  run = run_at_moments tells old.state new.state (view old.disk) (view new.disk) passes keeps;
  run_at_exit = run_at_exit tells old.state new.state (view old.disk) (view new.disk) passes keeps;
}
