use Rattle.std.proofs.Common.{ℕ, List, length, take}
use Rattle.segment_merge.specs.declared.segment.SegmentRead.{SegmentRead}
use Rattle.segment_merge.specs.Rows.{batches_in}
use Rattle.segment_merge.specs.Steps.{KeepsMerged}
use Rattle.segment_merge.proofs.KeepsMerged.{IsUpTo}
use Rattle.segment_merge.proofs.merging.merge_batches.Given as goal

abbrev pub invariant-loop-batch : goal.invariant-loop-batch
invariant-loop-batch l = (first : ℕ) (before : List SegmentRead) → KeepsMerged first (batches_in before) l.fn.kept
    → IsUpTo first (batches_in before) (take (length l.yielded) l.fn.segment.batches) l.kept l.expected l.is_first
