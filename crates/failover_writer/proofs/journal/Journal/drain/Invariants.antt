-- All steps so far, and what holds of them; each takes a poll left, or leaves less to do.
use Rattle.std.proofs.Common.{◌≡◌, ◌≢◌, None}
use Rattle.failover_writer.specs.Answered.{StepsOn}
use Rattle.failover_writer.specs.Lasting.{Lasts}
use Rattle.failover_writer.specs.Remaining.{measure}
use Rattle.failover_writer.proofs.journal.Journal.drain.Given as goal

abbrev pub invariant-loop : goal.invariant-loop
invariant-loop g l = record {
  steps : StepsOn l.initial.self.state (g.D.Disk.view l.initial.self.disk) l.self.state (g.D.Disk.view l.self.disk);
  want : l.self.state.want ≡ l.initial.self.state.want;
  lasts : Lasts g.D.Disk.tells g.D.Disk.view l.initial.self l.self;
  still : l.initial.self.state.dead ≢ None → l.self ≡ l.initial.self;
}

abbrev pub decreases-loop : goal.decreases-loop
decreases-loop g l = measure l.self.state (g.D.Disk.view l.self.disk)
