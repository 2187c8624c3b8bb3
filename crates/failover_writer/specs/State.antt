-- What a journal means to contracts (docs/formats/journal.md, "The journal").
use Rattle.std.specs.Prelude.{ℕ, ◌∷◌, max, Bool, true, false, List, [], Option, None, count_by}
use Rattle.record_queue.specs.Queue.{Queue, queue_end}
use Rattle.log_writer.specs.declared.phase.Phase.{Phase}
use Rattle.log_writer.specs.declared.phase.Phase.TheVariants.{New, InFlight, Idle, Broken}
use Rattle.log_writer.specs.Writer.{Writer}
use Rattle.failover_writer.specs.declared.fault.DeadMark.{DeadMark}

-- A journal: the records of a run, and the segments to which they go. Records are counted from 0.
pub record State : Type 0 where
  -- the WAL of its segments
  pub wal : ℕ
  -- the number of the first record
  pub base : ℕ
  -- the number after the last record
  pub next : ℕ
  -- from how many pending polls on a segment hangs
  pub threshold : ℕ
  -- the records that a segment may still have to write
  pub queue : Queue
  -- the length up to which a sync was asked for
  pub want : ℕ
  -- the segments begun, the current one last
  pub segments : List Writer
  -- set once the journal has given up
  pub dead : Option DeadMark
  -- how many segments were not broken as the next one was begun
  pub left_by_stall : ℕ

-- how many records there are
abbrev pub len : State → ℕ
len state = queue_end state.queue

-- the greatest end of what a segment has synced, from this number on
unfoldable pub most_synced : ℕ → List Writer → ℕ
most_synced acked [] = acked
most_synced acked (writer ∷ writers) = most_synced (max acked writer.synced) writers

-- the end of what some segment has synced
abbrev pub acked : State → ℕ
acked state = most_synced 0 state.segments

abbrev pub phase_is_broken : Phase → Bool
phase_is_broken New = false
phase_is_broken (InFlight operation id) = false
phase_is_broken Idle = false
phase_is_broken Broken = true

-- Its writer is broken: an operation on the segment has failed.
abbrev pub is_broken : Writer → Bool
is_broken writer = phase_is_broken writer.phase

-- how many segments are broken
abbrev pub broken_count : State → ℕ
broken_count state = count_by is_broken state.segments

-- a journal of no record, before any segment is begun
abbrev pub unbegun : ℕ → ℕ → ℕ → Queue → State
unbegun wal base threshold queue = record { wal = wal; base = base; next = base; threshold = threshold; queue = queue; want = 0; segments = []; dead = None; left_by_stall = 0 }

-- a journal with its disk
pub record JournalView (Disk : Type 0) : Type 0 where
  pub disk : Disk
  pub state : State

-- with room for so many records more
abbrev pub with_room : {Disk : Type 0} → ℕ → JournalView Disk → JournalView Disk
with_room spare old = record old { state = record old.state { queue = record old.state.queue { spare = spare } } }
