use Rattle.std.proofs.Common.{◌≡◌, take}
use Rattle.batch_repr.proofs.shared_entries.SharedEntries.to_entries.Given as goal

abbrev pub invariant-loop-entry : goal.invariant-loop-entry
invariant-loop-entry l = l.entries ≡ take l.entry-index l.held
