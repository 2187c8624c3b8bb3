-- What one step of the pass does (docs/formats/journal.md, "Merging").
use Rattle.std.specs.Prelude.{◌≡◌, ◌≢◌, ◌⊎◌, ℕ, ◌≤◌, ◌<◌, ◌↔◌, Bool, true, false, List, [], ◌∷◌, ◌++◌, Result, Ok, Err, Contains}
use Rattle.batch_repr.specs.declared.batch.Batch.{Batch}
use Rattle.batch_repr.specs.Batches.{end_of, end_after}
use Rattle.segment_merge.specs.declared.segment.SegmentRead.{SegmentRead}
use Rattle.segment_merge.specs.declared.fault.MergeFault.{MergeFault}
use Rattle.segment_merge.specs.declared.fault.MergeFault.TheVariants as faults
use Rattle.segment_merge.specs.Rows.{batches_in}
use Rattle.segment_merge.specs.Keeping.{Kept}
use Rattle.segment_merge.specs.Merging.{Merged, all_of, AscendByNumber}
use Rattle.segment_merge.specs.Refusals.{IsRowRefused}
use Rattle.segment_merge.specs.Lenient.{IsAccepted, IsRowLenientlyRefused}
use Rattle.segment_merge.specs.Returned.{MemoryOrRefusal}

-- The first batch of a segment begins at most at the expected number, and each later one there.
abbrev pub Follows : Bool → ℕ → ℕ → Type 0
Follows true expected first = first ≤ expected
Follows false expected first = first ≡ expected

-- It began at the number that was next, and is kept.
pub record IsAppended (old new : Kept) (batch : Batch) : Type 0 where
  pub at : batch.first ≡ old.next
  pub new_is : new.batches ≡ old.batches ++ batch ∷ []
  pub next_is : new.next ≡ end_of batch

-- It was kept already.
pub record IsSkipped (old new : Kept) (batch : Batch) : Type 0 where
  pub kept : Contains old.batches batch
  pub new_is : new.batches ≡ old.batches
  pub next_is : new.next ≡ old.next

-- It is out of order in its segment, or it doesn't begin at the number that is next and equals no kept batch.
pub record IsDenied (old : Kept) (expected : ℕ) (is_first : Bool) (batch : Batch) : Type 0 where
  pub within : batch.first ≤ expected
  pub wrong : (Follows is_first expected batch.first → ⊥) ⊎ ((Follows is_first expected batch.first) × (batch.first ≢ old.next)
      × (Contains old.batches batch → ⊥))

-- What a step answers.
abbrev pub Steps : Kept → Kept → ℕ → Bool → ℕ → Batch → Result (Unit {0}) MergeFault → Type 0
Steps old new expected is_first index batch (Ok done) = Follows is_first expected batch.first × (IsAppended old new batch ⊎ IsSkipped old new batch)
Steps old new expected is_first index batch (Err (faults.Gap i e f)) = (i ≡ index) × (e ≡ expected) × (f ≡ batch.first) × (expected < batch.first)
Steps old new expected is_first index batch (Err (faults.Conflict i f)) = (i ≡ index) × (f ≡ batch.first) × IsDenied old expected is_first batch
Steps old new expected is_first index batch (Err faults.NoMemory) = Unit {0}

-- What is kept is the merged list of these, and its end comes next.
pub record KeepsMerged (first : ℕ) (segments : List (List Batch)) (kept : Kept) : Type 0 where
  pub merged : Merged first segments kept.batches
  pub next_is : kept.next ≡ end_after first kept.batches

-- What merging one more segment answers, whatever segments follow.
abbrev pub SegmentAnswers : ℕ → List SegmentRead → SegmentRead → Kept → Result (Unit {0}) MergeFault → Type 0
SegmentAnswers first before segment kept (Ok done) = KeepsMerged first (batches_in (before ++ segment ∷ [])) kept
SegmentAnswers first before segment kept (Err fault) = (later : List SegmentRead) → MemoryOrRefusal (IsRowRefused first (before ++ segment ∷ later)) fault

-- ---- where gaps are accepted

-- It began at or above the number that was next, and is kept.
pub record IsAppendedAfter (old new : Kept) (batch : Batch) : Type 0 where
  pub above : old.next ≤ batch.first
  pub new_is : new.batches ≡ old.batches ++ batch ∷ []
  pub next_is : new.next ≡ end_of batch

-- What a step answers.
abbrev pub LenientSteps : Kept → Kept → ℕ → Batch → Result (Unit {0}) MergeFault → Type 0
LenientSteps old new index batch (Ok done) = IsAppendedAfter old new batch ⊎ IsSkipped old new batch
LenientSteps old new index batch (Err (faults.Gap i e f)) = ⊥
LenientSteps old new index batch (Err (faults.Conflict i f)) = (i ≡ index) × (f ≡ batch.first) × (batch.first < old.next) × (Contains old.batches batch → ⊥)
LenientSteps old new index batch (Err faults.NoMemory) = Unit {0}

-- What is kept is what these batches are without repeated ones, and its end comes next.
pub record KeepsLenient (all : List Batch) (kept : Kept) : Type 0 where
  pub ascending : AscendByNumber 0 kept.batches
  pub same : (batch : Batch) → Contains kept.batches batch ↔ Contains all batch
  pub accepted : IsAccepted all
  pub next_is : kept.next ≡ end_after 0 kept.batches

-- What merging one more segment answers, whatever segments follow.
abbrev pub LenientAnswers : List SegmentRead → SegmentRead → Kept → Result (Unit {0}) MergeFault → Type 0
LenientAnswers before segment kept (Ok done) = KeepsLenient (all_of (batches_in (before ++ segment ∷ []))) kept
LenientAnswers before segment kept (Err fault) = (later : List SegmentRead) → MemoryOrRefusal (IsRowLenientlyRefused (before ++ segment ∷ later)) fault

-- What merging more segments answers.
abbrev pub RowAnswers : List SegmentRead → List SegmentRead → Kept → Result (Unit {0}) MergeFault → Type 0
RowAnswers before row kept (Ok done) = KeepsLenient (all_of (batches_in (before ++ row))) kept
RowAnswers before row kept (Err fault) = MemoryOrRefusal (IsRowLenientlyRefused (before ++ row)) fault
