-- Laws of merging, each as one statement (docs/formats/journal.md, "Merging").
use Rattle.std.specs.Prelude.{◌≡◌, ℕ, List}
use Rattle.batch_repr.specs.declared.batch.Batch.{Batch}
use Rattle.segment_merge.specs.declared.segment.SegmentRead.{SegmentRead}
use Rattle.segment_merge.specs.declared.fault.MergeFault.{MergeFault}
use Rattle.segment_merge.specs.Rows.{batches_in}
use Rattle.segment_merge.specs.Merging.{Merged}
use Rattle.segment_merge.specs.Refusals.{IsRowRefused}
use Rattle.segment_merge.specs.Lenient.{MergedLenient, IsRowLenientlyRefused}

-- A row has at most one merged list.
abbrev pub MergesToOneList : Type 0
MergesToOneList = (first : ℕ) (segments : List (List Batch)) (one other : List Batch) → Merged first segments one → Merged first segments other → one ≡ other

-- A row has at most one refusal.
abbrev pub IsRefusedForOneFault : Type 0
IsRefusedForOneFault = (first : ℕ) (segments : List SegmentRead) (one other : MergeFault) → IsRowRefused first segments one
    → IsRowRefused first segments other → one ≡ other

-- No row is merged and refused.
abbrev pub IsNotMergedAndRefused : Type 0
IsNotMergedAndRefused = (first : ℕ) (segments : List SegmentRead) (merged : List Batch) (fault : MergeFault)
    → Merged first (batches_in segments) merged → IsRowRefused first segments fault → ⊥

-- ---- where gaps are accepted

-- A row has at most one merged list.
abbrev pub MergesLenientlyToOneList : Type 0
MergesLenientlyToOneList = (segments : List (List Batch)) (one other : List Batch) → MergedLenient segments one → MergedLenient segments other → one ≡ other

-- A row has at most one refusal.
abbrev pub IsLenientlyRefusedForOneFault : Type 0
IsLenientlyRefusedForOneFault = (segments : List SegmentRead) (one other : MergeFault) → IsRowLenientlyRefused segments one
    → IsRowLenientlyRefused segments other → one ≡ other

-- No row is merged and refused.
abbrev pub IsNotLenientlyMergedAndRefused : Type 0
IsNotLenientlyMergedAndRefused = (segments : List SegmentRead) (merged : List Batch) (fault : MergeFault)
    → MergedLenient (batches_in segments) merged → IsRowLenientlyRefused segments fault → ⊥
