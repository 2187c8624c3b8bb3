use Rattle.std.proofs.Common.{◌<◌, take}
use Rattle.std.specs.Prelude.{All}
use Rattle.std.specs.List.{AllAdjacentBelow}
use Rattle.segment_merge.specs.declared.segment.SegmentRead.{SegmentRead}
use Rattle.segment_merge.specs.Rows.{IsNumberedSegment}
use Rattle.segment_merge.proofs.tests.see_row.Given as goal

abbrev pub invariant-loop-k : goal.invariant-loop-k
invariant-loop-k g l = AllAdjacentBelow (λ (one next : SegmentRead). one.index < next.index) l.segments l.k

abbrev pub invariant-loop-segment : goal.invariant-loop-segment
invariant-loop-segment g l = All IsNumberedSegment (take l.segment-index l.segments)
