use Rattle.std.proofs.Common.{◌≡◌, ◌++◌, length}
use Rattle.made_load.specs.Load.{load_rounds}
use Rattle.made_load.proofs.load.load_script.Given as goal

abbrev pub invariant-loop-round : goal.invariant-loop-round
invariant-loop-round l = l.rounds ++ l.load ≡ load_rounds l.seed l.batches

abbrev pub decreases-loop-round : goal.decreases-loop-round
decreases-loop-round l = length l.load
