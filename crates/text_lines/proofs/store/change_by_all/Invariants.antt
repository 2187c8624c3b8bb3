use Rattle.std.proofs.Common.{◌≡◌, ◌≤◌, ◌+◌, ℕ, List, fold, take}
use Rattle.batch_repr.specs.Batches.{count_of}
use Rattle.text_lines.specs.Holding.{held, changed, count_held}
use Rattle.text_lines.proofs.store.change_by_all.Given as goal

abbrev pub invariant-loop-entry : goal.invariant-loop-entry
invariant-loop-entry l = record {
  same : (key : List ℕ) → held l.holding key ≡ fold (changed key) (held l.initial.holding key) (take l.entry-index l.entries);
  few : count_held l.holding ≤ count_held l.initial.holding + count_of (take l.entry-index l.entries);
}
