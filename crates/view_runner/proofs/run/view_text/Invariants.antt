use Rattle.std.proofs.Common.{take}
use Rattle.view_runner.specs.Running.{HasAnswered}
use Rattle.view_runner.proofs.run.view_text.Given as goal

abbrev pub invariant-loop-line : goal.invariant-loop-line
invariant-loop-line l = HasAnswered l.batches l.floor (take l.line-index l.line-items) l.run
