-- What each call of a journal leaves as it was (docs/formats/journal.md, "The journal"). The WAL, the number of the first record and the threshold never change.
use Rattle.std.specs.Prelude.{◌≡◌}
use Rattle.failover_writer.specs.State.{State, len}

-- A call that adds no record: how many there are, and the number after the last one, stay.
pub record KeepsEnd (old new : State) : Type 0 where
  pub wal : new.wal ≡ old.wal
  pub base : new.base ≡ old.base
  pub threshold : new.threshold ≡ old.threshold
  pub next : new.next ≡ old.next
  pub end : len new ≡ len old

-- A call that adds no record and asks for no sync: the length up to which one was asked for stays too.
pub record KeepsGoal (old new : State) : Type 0 where
  pub keeps : KeepsEnd old new
  pub want : new.want ≡ old.want

-- A call that makes no step: the segments, the mark of a dead journal, and the number of the first queued record stay.
pub record KeepsSegments (old new : State) : Type 0 where
  pub wal : new.wal ≡ old.wal
  pub base : new.base ≡ old.base
  pub threshold : new.threshold ≡ old.threshold
  pub start : new.queue.start ≡ old.queue.start
  pub segments : new.segments ≡ old.segments
  pub dead : new.dead ≡ old.dead
