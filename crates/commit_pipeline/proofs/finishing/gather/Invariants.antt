-- The last of the sessions are gathered.
use Rattle.std.specs.Prelude.{◌≡◌, length}
use Rattle.commit_queue.specs.Seats.{producer_table, producer_view}
use Rattle.commit_pipeline.proofs.TakesAllBack.{Gathers}
use Rattle.commit_pipeline.proofs.finishing.gather.Given as goal

abbrev pub invariant-loop-session : goal.invariant-loop-session
invariant-loop-session g l = record {
  table : producer_table l.producer ≡ g.N.PipeName.table;
  gathers : Gathers l.initial.sessions.items l.sessions.items (producer_view l.initial.producer) (producer_view l.producer) l.own.parts l.own.amount
      l.dead.parts l.dead.amount;
}

abbrev pub decreases-loop-session : goal.decreases-loop-session
decreases-loop-session g l = length l.sessions.items
