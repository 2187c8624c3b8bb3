-- Rows of segments (docs/formats/journal.md, "Merging").
use Rattle.std.specs.Prelude.{◌≤◌, ◌<◌, List, length, map, All}
use Rattle.std.specs.List.{AllAdjacentBelow}
use Rattle.batch_repr.specs.declared.batch.Batch.{Batch}
use Rattle.batch_repr.specs.declared.limits.TheConstants.{NUMBER_MAX}
use Rattle.batch_repr.specs.Batches.{count_of, end_of}
use Rattle.segment_merge.specs.declared.segment.SegmentRead.{SegmentRead}

-- the batches of each segment
abbrev pub batches_in : List SegmentRead → List (List Batch)
batches_in segments = map (λ (segment : SegmentRead). segment.batches) segments

-- The batch takes a number, and ends within the numbers.
pub record IsNumbered (batch : Batch) : Type 0 where
  pub some : 0 < count_of batch.entries
  pub within : end_of batch ≤ NUMBER_MAX

-- Each batch of the segment does.
abbrev pub IsNumberedSegment : SegmentRead → Type 0
IsNumberedSegment segment = All IsNumbered segment.batches

-- Each segment has an index above that of the one before it.
abbrev pub IndexesAscend : List SegmentRead → Type 0
IndexesAscend segments = AllAdjacentBelow (λ (one next : SegmentRead). one.index < next.index) segments (length segments)

-- what a merge is given: segments by their index, with batches that take numbers
pub record IsRow (segments : List SegmentRead) : Type 0 where
  pub indexes : IndexesAscend segments
  pub numbered : All IsNumberedSegment segments
