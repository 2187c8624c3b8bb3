use Rattle.std.proofs.Common.{◌≡◌, ◌++◌, take}
use Rattle.batch_repr.specs.Written.{written_entries}
use Rattle.batch_repr.proofs.writing.push_entries.Given as goal

abbrev pub invariant-loop-entry : goal.invariant-loop-entry
invariant-loop-entry l = l.out.items ≡ l.fn.out.items ++ written_entries (take l.entry-index l.entries)
