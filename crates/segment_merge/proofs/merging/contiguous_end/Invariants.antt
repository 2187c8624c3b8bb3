use Rattle.std.proofs.Common.{take}
use Rattle.segment_merge.specs.Keeping.{IsWholeFrom}
use Rattle.segment_merge.proofs.merging.contiguous_end.Given as goal

abbrev pub invariant-loop-batch : goal.invariant-loop-batch
invariant-loop-batch l = IsWholeFrom l.from (take l.batch-index l.batches) l.next
