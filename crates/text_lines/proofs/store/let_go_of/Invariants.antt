-- No key was taken out but of the range.
use Rattle.std.proofs.Common.{◌≡◌, ◌≤◌, ℕ, List}
use Rattle.text_lines.specs.Holding.{held, let_go, count_held}
use Rattle.text_lines.proofs.store.let_go_of.Given as goal

abbrev pub invariant-loop-key : goal.invariant-loop-key
invariant-loop-key l = record {
  same : (key : List ℕ) → let_go l.start l.end key (held l.holding key) ≡ let_go l.start l.end key (held l.initial.holding key);
  few : count_held l.holding ≤ count_held l.initial.holding;
}

abbrev pub decreases-loop-key : goal.decreases-loop-key
decreases-loop-key l = count_held l.holding
