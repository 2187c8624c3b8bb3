-- What the calls of a merge promise, whatever was merged before (docs/formats/journal.md, "Merging").
use Rattle.std.specs.Prelude.{ℕ, List, ◌++◌, Result, IfOk, IfErr, Contains}
use Rattle.batch_repr.specs.declared.batch.Batch.{Batch}
use Rattle.segment_merge.specs.declared.segment.SegmentRead.{SegmentRead}
use Rattle.segment_merge.specs.declared.fault.MergeFault.{MergeFault}
use Rattle.segment_merge.specs.declared.fault.MergeFault.TheVariants as faults
use Rattle.segment_merge.specs.Rows.{batches_in}
use Rattle.segment_merge.specs.Keeping.{Kept}
use Rattle.segment_merge.specs.Merging.{Merged, all_of}
use Rattle.segment_merge.specs.Refusals.{IsGap, IsConflict}
use Rattle.segment_merge.specs.Lenient.{MergedLenient, AreMergedOf, IsLenientConflict, IsRowLenientlyRefused}
use Rattle.segment_merge.specs.Returned.{MergedOrMemory, RefusedOrMemory, MemoryOrRefusal}
use Rattle.segment_merge.specs.Steps.{KeepsMerged, SegmentAnswers, KeepsLenient, LenientAnswers, RowAnswers}

-- The batch is one of those that are kept.
abbrev pub HasKept : Kept → Batch → Type 0
HasKept kept batch = Contains kept.batches batch

-- Whatever segments are merged so far, the segment is merged after them or refused there.
abbrev pub MergesSegment : SegmentRead → Kept → Kept → Result (Unit {0}) MergeFault → Type 0
MergesSegment segment old new result = (first : ℕ) (before : List SegmentRead) → KeepsMerged first (batches_in before) old
    → SegmentAnswers first before segment new result

-- Whatever the row merges to is answered, unless memory ran out.
abbrev pub FindsMerged : ℕ → List SegmentRead → Result (List Batch) MergeFault → Type 0
FindsMerged first row result = (merged : List Batch) → Merged first (batches_in row) merged → MergedOrMemory result merged

-- A gap of the row is answered, unless memory ran out.
abbrev pub RefusesGap : ℕ → List SegmentRead → Result (List Batch) MergeFault → Type 0
RefusesGap first row result = (index expected found : ℕ) → IsGap first row index expected found → RefusedOrMemory result (faults.Gap index expected found)

-- A conflict of the row is answered, unless memory ran out.
abbrev pub RefusesConflict : ℕ → List SegmentRead → Result (List Batch) MergeFault → Type 0
RefusesConflict first row result = (index number : ℕ) → IsConflict first row index number → RefusedOrMemory result (faults.Conflict index number)

-- ---- where gaps are accepted

-- Whatever segments are merged so far, the segment is merged after them or refused there.
abbrev pub MergesSegmentLeniently : SegmentRead → Kept → Kept → Result (Unit {0}) MergeFault → Type 0
MergesSegmentLeniently segment old new result = (before : List SegmentRead) → KeepsLenient (all_of (batches_in before)) old
    → LenientAnswers before segment new result

-- Whatever segments are merged so far, the row is merged after them or refused there.
abbrev pub MergesRowLeniently : List SegmentRead → Kept → Kept → Result (Unit {0}) MergeFault → Type 0
MergesRowLeniently row old new result = (before : List SegmentRead) → KeepsLenient (all_of (batches_in before)) old → RowAnswers before row new result

-- Whatever segments are merged so far, what is answered is merged of them and the row.
abbrev pub AddsRow : List Batch → List SegmentRead → Result (List Batch) MergeFault → Type 0
AddsRow so_far row result = (before : List SegmentRead) → AreMergedOf before so_far → IfOk result (AreMergedOf (before ++ row))

-- Whatever they and the row merge to is answered, unless memory ran out.
abbrev pub FindsMergedWithRow : List Batch → List SegmentRead → Result (List Batch) MergeFault → Type 0
FindsMergedWithRow so_far row result = (before : List SegmentRead) (merged : List Batch) → AreMergedOf before so_far
    → AreMergedOf (before ++ row) merged → MergedOrMemory result merged

-- A fault is one for which they and the row are refused, or out of memory.
abbrev pub RefusesWithRow : List Batch → List SegmentRead → Result (List Batch) MergeFault → Type 0
RefusesWithRow so_far row result = (before : List SegmentRead) → AreMergedOf before so_far
    → IfErr result (MemoryOrRefusal (IsRowLenientlyRefused (before ++ row)))

-- A conflict of them and the row is answered, unless memory ran out.
abbrev pub RefusesConflictWithRow : List Batch → List SegmentRead → Result (List Batch) MergeFault → Type 0
RefusesConflictWithRow so_far row result =
    (before : List SegmentRead) (index number : ℕ) → AreMergedOf before so_far → IsLenientConflict (before ++ row) index number
    → RefusedOrMemory result (faults.Conflict index number)

-- Whatever the row merges to is answered, unless memory ran out.
abbrev pub FindsLenientlyMerged : List SegmentRead → Result (List Batch) MergeFault → Type 0
FindsLenientlyMerged row result = (merged : List Batch) → MergedLenient (batches_in row) merged → MergedOrMemory result merged

-- A conflict of the row is answered, unless memory ran out.
abbrev pub RefusesLenientConflict : List SegmentRead → Result (List Batch) MergeFault → Type 0
RefusesLenientConflict row result = (index number : ℕ) → IsLenientConflict row index number → RefusedOrMemory result (faults.Conflict index number)
