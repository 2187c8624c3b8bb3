use Rattle.std.proofs.Common.{take}
use Rattle.segment_merge.specs.Keeping.{IsAscendingFrom}
use Rattle.segment_merge.proofs.lenient.ascending_end.Given as goal

abbrev pub invariant-loop-batch : goal.invariant-loop-batch
invariant-loop-batch l = IsAscendingFrom l.from (take l.batch-index l.batches) l.next
