use Rattle.std.proofs.Common.{length, take}
use Rattle.segment_merge.specs.Rows.{batches_in}
use Rattle.segment_merge.specs.Steps.{KeepsMerged}
use Rattle.segment_merge.proofs.merging.merge.Given as goal

abbrev pub invariant-loop-segment : goal.invariant-loop-segment
invariant-loop-segment l = KeepsMerged l.fn.first (batches_in (take (length l.yielded) l.fn.segs)) l.kept
