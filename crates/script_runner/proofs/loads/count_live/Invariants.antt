-- The keys so far are counted.
use Rattle.script_runner.proofs.CountsKeys.{KeysSoFar}
use Rattle.script_runner.proofs.loads.count_live.Given as goal

abbrev pub invariant-loop-index : goal.invariant-loop-index
invariant-loop-index g l = KeysSoFar g.N.PipeName.opening l.initial.readers l.readers l.index l.live
