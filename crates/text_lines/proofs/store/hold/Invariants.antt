use Rattle.std.proofs.Common.{◌≡◌, ◌≤◌, ℕ, List, None, fold, take}
use Rattle.batch_repr.specs.Batches.{count_of, entries_in}
use Rattle.text_lines.specs.Holding.{held, changed, count_held}
use Rattle.text_lines.proofs.store.hold.Given as goal

abbrev pub invariant-loop-batch : goal.invariant-loop-batch
invariant-loop-batch l = record {
  same : (key : List ℕ) → held l.holding key ≡ fold (changed key) None (entries_in (take l.batch-index l.batches));
  few : count_held l.holding ≤ count_of (entries_in (take l.batch-index l.batches));
}
