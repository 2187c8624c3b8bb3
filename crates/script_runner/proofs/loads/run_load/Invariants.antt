-- The rounds so far are played, and these are to come.
use Rattle.std.specs.Prelude.{length}
use Rattle.script_runner.proofs.RoundsSoFar.{RoundsSoFar}
use Rattle.script_runner.proofs.loads.run_load.Given as goal

abbrev pub invariant-loop-round : goal.invariant-loop-round
invariant-loop-round g l = RoundsSoFar g.N.PipeName.opening l.initial.players l.initial.load l.load l.players l.initial.transcript l.transcript

abbrev pub decreases-loop-round : goal.decreases-loop-round
decreases-loop-round g l = length l.load
