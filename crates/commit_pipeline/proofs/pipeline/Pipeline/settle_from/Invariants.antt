-- Each shard leaves the seat as it was, for whoever looks at it from here.
use Rattle.std.proofs.Common.{◌≡◌}
use Rattle.commit_queue.specs.Seats.{session_table}
use Rattle.commit_queue.specs.Shown.{session_shown}
use Rattle.commit_pipeline.proofs.pipeline.Pipeline.settle_from.Given as goal

abbrev pub invariant-loop-step : goal.invariant-loop-step
invariant-loop-step g l = record {
  table : session_table l.seat ≡ session_table l.initial.seat;
  shown : session_shown l.seat ≡ session_shown l.initial.seat;
}
