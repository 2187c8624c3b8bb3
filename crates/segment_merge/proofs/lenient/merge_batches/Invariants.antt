use Rattle.std.proofs.Common.{List, ◌++◌, length, take}
use Rattle.segment_merge.specs.declared.segment.SegmentRead.{SegmentRead}
use Rattle.segment_merge.specs.Rows.{batches_in}
use Rattle.segment_merge.specs.Merging.{all_of}
use Rattle.segment_merge.specs.Steps.{KeepsLenient}
use Rattle.segment_merge.proofs.lenient.merge_batches.Given as goal

abbrev pub invariant-loop-batch : goal.invariant-loop-batch
invariant-loop-batch l = (before : List SegmentRead) → KeepsLenient (all_of (batches_in before)) l.fn.kept
    → KeepsLenient (all_of (batches_in before) ++ take (length l.yielded) l.fn.segment.batches) l.kept
