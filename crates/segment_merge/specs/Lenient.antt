-- Merging that accepts gaps (docs/formats/journal.md, "Merging").
use Rattle.std.specs.Prelude.{◌≡◌, ℕ, ◌≤◌, ◌⊎◌, ◌↔◌, List, ◌∷◌, ◌++◌, Contains}
use Rattle.batch_repr.specs.declared.batch.Batch.{Batch}
use Rattle.batch_repr.specs.Batches.{end_of}
use Rattle.segment_merge.specs.declared.segment.SegmentRead.{SegmentRead}
use Rattle.segment_merge.specs.declared.fault.MergeFault.{MergeFault}
use Rattle.segment_merge.specs.declared.fault.MergeFault.TheVariants as faults
use Rattle.segment_merge.specs.Rows.{batches_in}
use Rattle.segment_merge.specs.Merging.{all_of, AscendByNumber}

-- It begins at or above every end before it.
abbrev pub IsPast : List Batch → Batch → Type 0
IsPast before batch = (earlier : Batch) → Contains before earlier → end_of earlier ≤ batch.first

-- It is one of those before it, or begins after them all.
abbrev pub IsNewOrKept : List Batch → Batch → Type 0
IsNewOrKept before batch = Contains before batch ⊎ IsPast before batch

-- Each batch is.
abbrev pub IsAccepted : List Batch → Type 0
IsAccepted batches = (before : List Batch) (batch : Batch) (after : List Batch) → batches ≡ before ++ batch ∷ after → IsNewOrKept before batch

-- The row without repeated batches.
pub record MergedLenient (segments : List (List Batch)) (merged : List Batch) : Type 0 where
  pub ascending : AscendByNumber 0 merged
  pub same : (batch : Batch) → Contains merged batch ↔ Contains (all_of segments) batch
  pub accepted : IsAccepted (all_of segments)

-- The segments are merged to these batches.
abbrev pub AreMergedOf : List SegmentRead → List Batch → Type 0
AreMergedOf segments merged = MergedLenient (batches_in segments) merged

-- The first batch that is neither new nor kept, in the segment with this index.
pub record IsLenientConflict (segments : List SegmentRead) (index found : ℕ) : Type 0 where
  pub before : List SegmentRead
  pub segment : SegmentRead
  pub after : List SegmentRead
  pub row : segments ≡ before ++ segment ∷ after
  pub index_is : index ≡ segment.index
  pub front : List Batch
  pub batch : Batch
  pub back : List Batch
  pub cut : segment.batches ≡ front ++ batch ∷ back
  pub right : IsAccepted (all_of (batches_in before) ++ front)
  pub wrong : IsNewOrKept (all_of (batches_in before) ++ front) batch → ⊥
  pub found_is : found ≡ batch.first

-- This is why the row is refused where gaps are accepted.
abbrev pub IsRowLenientlyRefused : List SegmentRead → MergeFault → Type 0
IsRowLenientlyRefused segments (faults.Conflict index found) = IsLenientConflict segments index found
IsRowLenientlyRefused segments fault = ⊥
