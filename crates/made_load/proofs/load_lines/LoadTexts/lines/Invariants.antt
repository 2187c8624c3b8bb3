use Rattle.std.proofs.Common.{◌≡◌}
use Rattle.made_load.specs.EveryNth.{lines_before}
use Rattle.made_load.proofs.load_lines.LoadTexts.lines.Given as goal

abbrev pub invariant-loop-place : goal.invariant-loop-place
invariant-loop-place l = l.lines ≡ lines_before l.self.batches l.place
