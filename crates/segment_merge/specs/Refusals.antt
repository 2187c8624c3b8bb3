-- Where a row of segments is refused: at the first batch after which the row, cut there, has no merged list (docs/formats/journal.md, "Merging").
use Rattle.std.specs.Prelude.{◌≡◌, ℕ, ◌<◌, ◌≤◌, List, [], ◌∷◌, ◌++◌}
use Rattle.batch_repr.specs.declared.batch.Batch.{Batch}
use Rattle.batch_repr.specs.Batches.{end_after}
use Rattle.segment_merge.specs.declared.segment.SegmentRead.{SegmentRead}
use Rattle.segment_merge.specs.declared.fault.MergeFault.{MergeFault}
use Rattle.segment_merge.specs.declared.fault.MergeFault.TheVariants as faults
use Rattle.segment_merge.specs.Rows.{batches_in}
use Rattle.segment_merge.specs.Merging.{all_of, greatest_end, Merged}

-- the number that is expected next: the end of the batch before it in the segment, and for the first batch the greatest end of the segments before
abbrev pub expected_after : ℕ → List (List Batch) → List Batch → ℕ
expected_after first before front = end_after (greatest_end first (all_of before)) front

-- In the segment with this index, the row cut right before this batch has a merged list, and cut right after it has none.
pub record IsFirstWrong (first : ℕ) (segments : List SegmentRead) (index expected : ℕ) (batch : Batch) : Type 0 where
  pub before : List SegmentRead
  pub segment : SegmentRead
  pub after : List SegmentRead
  pub row : segments ≡ before ++ segment ∷ after
  pub index_is : index ≡ segment.index
  pub front : List Batch
  pub back : List Batch
  pub cut : segment.batches ≡ front ++ batch ∷ back
  pub expected_is : expected ≡ expected_after first (batches_in before) front
  pub kept : List Batch
  pub right : Merged first (batches_in before ++ front ∷ []) kept
  pub wrong : (merged : List Batch) → Merged first (batches_in before ++ (front ++ batch ∷ []) ∷ []) merged → ⊥

-- The segment with this index leaves a gap.
pub record IsGap (first : ℕ) (segments : List SegmentRead) (index expected found : ℕ) : Type 0 where
  pub batch : Batch
  pub wrong : IsFirstWrong first segments index expected batch
  pub above : expected < batch.first
  pub found_is : found ≡ batch.first

-- The segment with this index has a batch that others deny.
pub record IsConflict (first : ℕ) (segments : List SegmentRead) (index found : ℕ) : Type 0 where
  pub expected : ℕ
  pub batch : Batch
  pub wrong : IsFirstWrong first segments index expected batch
  pub within : batch.first ≤ expected
  pub found_is : found ≡ batch.first

-- This is why the row is refused.
abbrev pub IsRowRefused : ℕ → List SegmentRead → MergeFault → Type 0
IsRowRefused first segments (faults.Gap index expected found) = IsGap first segments index expected found
IsRowRefused first segments (faults.Conflict index found) = IsConflict first segments index found
IsRowRefused first segments faults.NoMemory = ⊥
