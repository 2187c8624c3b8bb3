use Rattle.std.proofs.Common.{◌≡◌, ◌++◌}
use Rattle.std.specs.List.{repeat}
use Rattle.made_load.specs.Load.{load_key}
use Rattle.made_load.proofs.load_lines.put_text.Given as goal

abbrev pub invariant-loop : goal.invariant-loop
invariant-loop l = l.text.items ≡ (l.fn.text.items ++ load_key l.index) ++ repeat l.counter l.word
