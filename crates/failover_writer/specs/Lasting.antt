-- What each call that steps a journal keeps: one step, several one after another, and a closing (docs/formats/journal.md, "The step of a journal").
use Rattle.std.specs.Prelude.{◌⊎◌, ◌≤◌, Bool, List, IsTrue}
use Rattle.batch_repr.specs.declared.batch.Batch.{Batch}
use Rattle.disk_face.specs.View.{Files, DiskView, files, AtEachMoment}
use Rattle.disk_face.specs.Calls.{GoesOn}
use Rattle.failover_writer.specs.State.{JournalView, acked, broken_count}
use Rattle.failover_writer.specs.Setting.{KeepsEnd}
use Rattle.failover_writer.specs.Ranges.{StandsFor, KeepsRecords}
use Rattle.failover_writer.specs.Answered.{IsHarmed, IsSmooth, IsUnstalled, FaultsRose, PollsFell, RoseBy}
use Rattle.failover_writer.specs.Outcome.{ComesTo}
use Rattle.failover_writer.specs.Remaining.{pending_in_all}
use Rattle.failover_writer.specs.Keeping.{KeepsRun, RecoversTo, IsOpenedOn, KeepsBase, KeepsBases, Passes}

-- What steps come to, what they leave as it was, and what they tell of the disk: so much holds of one, and of several one after
-- another. The journal is harmed only where faults rose, and stays smooth where none rose and no poll was pending. Faults that covered its
-- failures since a moment cover them still, none of its segments is left by a stall where no poll was pending, and each that is left
-- has taken `threshold` pending polls.
pub record Lasts {Disk : Type 0} (tells : Bool) (view : Disk → DiskView) (old new : JournalView Disk) : Type 0 where
  pub comes : ComesTo old.state (view old.disk) new.state (view new.disk)
  pub setting : KeepsEnd old.state new.state
  pub acked : acked old.state ≤ acked new.state
  pub harmed : IsHarmed new.state → IsHarmed old.state ⊎ FaultsRose (view old.disk) (view new.disk)
  pub smooth : 1 ≤ old.state.threshold → IsSmooth old.state → IsSmooth new.state
      ⊎ (FaultsRose (view old.disk) (view new.disk) ⊎ PollsFell (view old.disk) (view new.disk))
  pub covers : (start : DiskView) → RoseBy (broken_count old.state) start (view old.disk) → RoseBy (broken_count new.state) start (view new.disk)
  pub unstalled : 1 ≤ old.state.threshold → IsUnstalled old.state → IsUnstalled new.state ⊎ PollsFell (view old.disk) (view new.disk)
  pub hangs : pending_in_all new.state (view new.disk) ≤ pending_in_all old.state (view old.disk)
  pub keeps : KeepsRecords tells view old new
  pub passes : Passes tells old.state new.state (view old.disk) (view new.disk)
  pub goes_on : GoesOn (view old.disk) (view new.disk)

-- What a stop leaves of the journal, in each image that no torn chunk deceives. At each moment of the call its run is kept, and
-- over a base that it keeps the files recover to the base and a prefix of its records, with all those that were acked before the
-- call, and after it all those that are acked now.
pub record Survives {Disk : Type 0} (tells : Bool) (view : Disk → DiskView) (old new : JournalView Disk) : Type 0 where
  pub keeps_base : KeepsBases tells view old new
  pub recovers : (records base : List Batch) → StandsFor tells records old.state (view old.disk) → KeepsBase tells base old.state (view old.disk) → IsTrue tells
      → AtEachMoment (view old.disk).clock (view new.disk) (RecoversTo base records (acked old.state))
  pub recovers_at_exit : (records base : List Batch) → StandsFor tells records old.state (view old.disk)
      → KeepsBase tells base old.state (view old.disk) → IsTrue tells
      → RecoversTo base records (acked new.state) (files (view new.disk))
  pub run : (records : List Batch) (opening : Files) → StandsFor tells records old.state (view old.disk)
      → IsOpenedOn opening old.state (files (view old.disk)) → IsTrue tells
      → AtEachMoment (view old.disk).clock (view new.disk) (KeepsRun old.state.wal old.state.base records (acked old.state) opening)
  pub run_at_exit : (records : List Batch) (opening : Files) → StandsFor tells records old.state (view old.disk)
      → IsOpenedOn opening old.state (files (view old.disk)) → IsTrue tells
      → KeepsRun old.state.wal old.state.base records (acked new.state) opening (files (view new.disk))
