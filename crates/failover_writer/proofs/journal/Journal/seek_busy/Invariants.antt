-- The invariant of the journal goes on, and none before the first busy one is busy.
use Rattle.std.proofs.Common.{◌-◌, ◌≡◌, ◌≤◌, take}
use Rattle.failover_writer.specs.Stepping.{NoneBusy}
use Rattle.failover_writer.proofs.journal.Journal.seek_busy.Given as goal

abbrev pub invariant-loop-self : goal.invariant-loop-self
invariant-loop-self g l = record {
  same : l.self-inside ≡ record l.initial.self-inside { first_busy = l.self-inside.first_busy };
  low : l.self-inside.first_busy ≤ l.last;
  rested : NoneBusy (take l.self-inside.first_busy l.self-inside.writers.items);
}

abbrev pub decreases-loop-self : goal.decreases-loop-self
decreases-loop-self g l = l.last - l.self-inside.first_busy
