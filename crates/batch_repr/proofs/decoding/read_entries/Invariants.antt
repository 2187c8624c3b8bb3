use Rattle.std.proofs.Common.{length}
use Rattle.batch_repr.proofs.Entries.{ReadSoFar}
use Rattle.batch_repr.proofs.decoding.read_entries.Given as goal

abbrev pub invariant-loop-rest : goal.invariant-loop-rest
invariant-loop-rest l = ReadSoFar l.text l.fn.entries.items l.entries.items l.rest

abbrev pub decreases-loop-rest : goal.decreases-loop-rest
decreases-loop-rest l = length l.rest
