use Rattle.std.proofs.Common.{◌≡◌, ◌≤◌, take}
use Rattle.batch_repr.specs.Batches.{count_of}
use Rattle.batch_repr.proofs.batch.counted.Given as goal

abbrev pub invariant-loop-entry : goal.invariant-loop-entry
invariant-loop-entry l = (l.found ≡ count_of (take l.entry-index l.entries)) × (l.found ≤ l.entry-index)
