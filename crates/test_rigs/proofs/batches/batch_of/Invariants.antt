use Rattle.std.proofs.Common.{◌≡◌, take}
use Rattle.test_rigs.specs.Changes.{added_entries}
use Rattle.test_rigs.proofs.batches.batch_of.Given as goal

abbrev pub invariant-loop-change : goal.invariant-loop-change
invariant-loop-change l = l.builder ≡ added_entries (take l.change-index l.changes)
