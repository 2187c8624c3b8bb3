use Rattle.std.proofs.Common.{◌≡◌, ◌++◌, map}
use Rattle.std.specs.List.{flat_map}
use Rattle.std.specs.Map.Iter.{deref_pair}
use Rattle.text_lines.specs.Holding.{shown}
use Rattle.text_lines.specs.Store.{held_line}
use Rattle.text_lines.proofs.store.add_holding.Given as goal

abbrev pub invariant-loop-key : goal.invariant-loop-key
invariant-loop-key l = l.out ≡ l.fn.out ++ flat_map held_line (map shown (map deref_pair l.yielded))
