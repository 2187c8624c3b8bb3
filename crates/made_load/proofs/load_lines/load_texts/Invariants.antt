use Rattle.std.proofs.Common.{◌≡◌}
use Rattle.made_load.specs.EveryNth.{texts_before}
use Rattle.made_load.proofs.load_lines.load_texts.Given as goal

abbrev pub invariant-loop-place : goal.invariant-loop-place
invariant-loop-place l = l.text.items ≡ texts_before l.batches l.place
