use Rattle.std.proofs.Common.{◌≡◌, ◌≤◌, take}
use Rattle.std.specs.Prelude.{All}
use Rattle.batch_repr.specs.declared.limits.TheConstants.{BATCH_MAX}
use Rattle.batch_repr.specs.Limits.{IsWithinLimits}
use Rattle.batch_repr.specs.Written.{written_len}
use Rattle.batch_repr.proofs.unwritten.batch_size.Given as goal

abbrev pub invariant-loop-entry : goal.invariant-loop-entry
invariant-loop-entry l = (l.size ≡ written_len (take l.entry-index l.entries)) × All IsWithinLimits (take l.entry-index l.entries) × (l.size ≤ BATCH_MAX)
