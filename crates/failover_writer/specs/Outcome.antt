-- What became of a journal since it was started (docs/formats/journal.md, "What became of a journal").
use Rattle.std.specs.Prelude.{◌≡◌, ◌⊎◌, ℕ, ◌≤◌, Bool, false, List, [], None, IsTrue, Result}
use Rattle.batch_repr.specs.declared.batch.Batch.{Batch}
use Rattle.disk_face.specs.declared.Side.{Side}
use Rattle.disk_face.specs.View.{Files, DiskView, files}
use Rattle.disk_face.specs.Calls.{WentOn, Stalls}
use Rattle.failover_writer.specs.declared.fault.JournalFault.{JournalFault}
use Rattle.failover_writer.specs.declared.fault.Step.{Step}
use Rattle.failover_writer.specs.State.{State, JournalView, len, broken_count}
use Rattle.failover_writer.specs.Ranges.{StandsFor}
use Rattle.failover_writer.specs.Answered.{StepsBy, FaultsRose, IsHarmed, IsSmooth, IsUnstalled, RoseBy}
use Rattle.failover_writer.specs.Moves.{Pushes}
use Rattle.failover_writer.specs.Keeping.{OthersStay, KeepsBase}
use Rattle.failover_writer.specs.Running.{PollsLeft}
use Rattle.failover_writer.specs.Remaining.{polls_left, pending_in_all}

-- What a journal is started as: its state, its disk as it is then, and whether more polls may be left to stall since.
pub record JournalStart : Type 0 where
  pub state : State
  pub disk : DiskView
  pub may_stall : Bool

abbrev pub start_on : {Disk : Type 0} → (Disk → DiskView) → JournalView Disk → Bool → JournalStart
start_on view journal may_stall = record { state = journal.state; disk = view journal.disk; may_stall = may_stall }

-- It has no record, and nothing has happened to it yet.
pub record IsUnbegun (tells : Bool) (start : JournalStart) : Type 0 where
  pub empty : StandsFor tells [] start.state start.disk
  pub none_begun : start.state.segments ≡ []
  pub lives : start.state.dead ≡ None
  pub none_left : start.state.left_by_stall ≡ 0

-- A poll may be answered pending: some were left to stall at the start, or some may be since.
abbrev pub MayStall : JournalStart → Type 0
MayStall start = PollsLeft start.disk ⊎ IsTrue start.may_stall

-- How a journal came from one state to another, over its disk: records were added, room was made for some, a sync of all was asked
-- for, it was stepped by the rule, and polls of its disk were left to stall.
pub data ComesTo (first : State) (before : DiskView) : State → DiskView → Type 0 where
  at_start : ComesTo first before first before
  added : (mid new : State) (v : DiskView) (batch : Batch) (sync : Bool) → ComesTo first before mid v → Pushes batch sync mid new
      → ComesTo first before new v
  roomier : (mid : State) (v : DiskView) (spare : ℕ) → ComesTo first before mid v
      → ComesTo first before (record mid { queue = record mid.queue { spare = spare } }) v
  asked : (mid : State) (v : DiskView) → ComesTo first before mid v → ComesTo first before (record mid { want = len mid }) v
  stepped : (mid new : State) (v after : DiskView) (answer : Result Step JournalFault) → ComesTo first before mid v
      → StepsBy mid new v after answer → ComesTo first before new after
  stalled : (mid : State) (v after : DiskView) (side : Side) (polls : ℕ) → ComesTo first before mid v → Stalls side polls v after
      → ComesTo first before mid after

-- What became of a journal since its start, over its disk as it is now: it has these records, and came here so. An operation failed,
-- and it died, only where faults rose since; it began a second segment only there, or where a poll may be answered pending. Faults
-- rose by so many at least as it has broken segments, and it left one that was not broken only where a poll may be pending: after
-- `threshold` pending polls, which were taken from those left at the start where no more are left to stall since. It keeps each base
-- that it kept at the start, and no file changed since but those of its segments.
pub record JournalOutcome (tells : Bool) (start : JournalStart) (batches : List Batch) (state : State) (v : DiskView) : Type 0 where
  pub stands : StandsFor tells batches state v
  pub comes : ComesTo start.state start.disk state v
  pub wal_is : state.wal ≡ start.state.wal
  pub base_is : state.base ≡ start.state.base
  pub threshold_is : state.threshold ≡ start.state.threshold
  pub least : 1 ≤ state.threshold
  pub went_on : WentOn start.disk v
  pub polls : start.may_stall ≡ false → (side : Side) → v.polls_left side ≤ start.disk.polls_left side
  pub harmed : IsHarmed state → FaultsRose start.disk v
  pub smooth : IsSmooth state ⊎ (FaultsRose start.disk v ⊎ MayStall start)
  pub covers : RoseBy (broken_count state) start.disk v
  pub unstalled : IsUnstalled state ⊎ MayStall start
  pub hangs : start.may_stall ≡ false → pending_in_all state v ≤ polls_left start.disk
  pub kept : (base : List Batch) → KeepsBase tells base start.state start.disk → KeepsBase tells base state v
  pub others : IsTrue tells → (at_start : Files) → OthersStay at_start start.state (files start.disk) → OthersStay at_start state (files v)
