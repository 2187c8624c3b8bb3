-- The rounds so far are played, and these are to come.
use Rattle.std.specs.Prelude.{length}
use Rattle.script_runner.specs.Rounds.{AllowsStalls}
use Rattle.script_runner.proofs.RoundsSoFar.{RoundsSoFar}
use Rattle.script_runner.proofs.rounds.run_rounds.Given as goal

abbrev pub invariant-loop-round : goal.invariant-loop-round
invariant-loop-round g l = record {
  so : RoundsSoFar g.N.PipeName.opening l.initial.players l.fn.rounds l.left.items l.players l.initial.transcript l.transcript;
  may : AllowsStalls g.N.PipeName.opening l.left.items;
}

abbrev pub decreases-loop-round : goal.decreases-loop-round
decreases-loop-round g l = length l.left.items
