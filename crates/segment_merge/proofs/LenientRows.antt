-- A merge that accepts gaps goes on, row by row: what is kept is the whole row merged, and the first segment that is refused refuses it.
use Rattle.std.proofs.Common.{◌≡◌, ℕ, ◌+◌, ◌<◌, List, [], ◌∷◌, ◌++◌, length, take, drop, get_or, sym, subst, ap, ◌∙◌, Ok, Err, append_assoc}
use Rattle.std.proofs.lemmas.List.{append-nil}
use Rattle.batch_repr.specs.declared.batch.Batch.{Batch}
use Rattle.segment_merge.specs.declared.segment.SegmentRead.{SegmentRead}
use Rattle.segment_merge.specs.declared.fault.MergeFault.{MergeFault}
use Rattle.segment_merge.specs.Rows.{batches_in}
use Rattle.segment_merge.specs.Merging.{all_of, AscendByNumber}
use Rattle.segment_merge.specs.Lenient.{AreMergedOf, IsRowLenientlyRefused}
use Rattle.segment_merge.specs.Returned.{MemoryOrRefusal}
use Rattle.segment_merge.specs.Keeping.{Kept}
use Rattle.segment_merge.specs.Steps.{KeepsLenient, LenientAnswers, RowAnswers}
use Rattle.segment_merge.proofs.KeepsMerged.{row_more, whole_row}
use Rattle.segment_merge.proofs.LenientPass.{keeps_own, accepted_none}
use Rattle.segment_merge.proofs.LenientRefusals.{Answers}

-- ---- the loop through a row

pub row_begun : (before : List SegmentRead) (kept : Kept) → KeepsLenient (all_of (batches_in before)) kept
    → KeepsLenient (all_of (batches_in (before ++ []))) kept
row_begun before kept k = subst (λ (s : List SegmentRead). KeepsLenient (all_of (batches_in s)) kept) (sym (append-nil before)) k

module _ (before row : List SegmentRead) (i : ℕ) (segment : SegmentRead) (below : i < length row) (is : segment ≡ get_or row i segment) where
  pub row_goes_on : (kept : Kept) (done : Unit {0}) → LenientAnswers (before ++ take i row) segment kept (Ok done)
      → KeepsLenient (all_of (batches_in (before ++ take (i + 1) row))) kept
  row_goes_on kept done k =
      subst (λ (s : List SegmentRead). KeepsLenient (all_of (batches_in s)) kept)
      (append_assoc before (take i row) (segment ∷ []) ∙ ap (λ (s : List SegmentRead). before ++ s) (sym (row_more row i segment below is))) k

  pub row_refused : (kept : Kept) (fault : MergeFault) → LenientAnswers (before ++ take i row) segment kept (Err fault)
      → MemoryOrRefusal (IsRowLenientlyRefused (before ++ row)) fault
  row_refused kept fault k =
      subst (λ (s : List SegmentRead). MemoryOrRefusal (IsRowLenientlyRefused s) fault)
      (append_assoc before (take i row) (segment ∷ drop (i + 1) row)
      ∙ ap (λ (s : List SegmentRead). before ++ s) (whole_row row i segment below is)) (k (drop (i + 1) row))

-- ---- from row to row

-- what was merged of a row is kept of it, whatever row it was
pub keeps_before : (before : List SegmentRead) (kept : Kept) → KeepsLenient kept.batches kept → AreMergedOf before kept.batches
    → KeepsLenient (all_of (batches_in before)) kept
keeps_before before kept own m = record { ascending = m.ascending; same = m.same; accepted = m.accepted; next_is = own.next_is }

-- the row that is one segment with the batches kept
abbrev alone : List Batch → List SegmentRead
alone batches = record { index = 0; batches = batches } ∷ []

pub keeps_alone : (kept : Kept) → KeepsLenient kept.batches kept → KeepsLenient (all_of (batches_in (alone kept.batches))) kept
keeps_alone kept own = subst (λ (b : List Batch). KeepsLenient b kept) (sym (append-nil kept.batches)) own

-- so what is kept after it is merged too
pub keeps_on : (row : List SegmentRead) (old new : Kept) (done : Unit {0}) → KeepsLenient old.batches old
    → ((before : List SegmentRead) → KeepsLenient (all_of (batches_in before)) old → RowAnswers before row new (Ok done)) → KeepsLenient new.batches new
keeps_on row old new done own goes = keeps_own (all_of (batches_in (alone old.batches ++ row))) new (goes (alone old.batches) (keeps_alone old own))

pub answers_ok : (segments : List SegmentRead) (new : Kept) → KeepsLenient (all_of (batches_in segments)) new → Answers segments (Ok new.batches)
answers_ok segments new k = record { ascending = k.ascending; same = k.same; accepted = k.accepted }

-- of no segments, nothing is merged
pub merged_none : (merged : List Batch) → merged ≡ [] → AreMergedOf [] merged
unfolding AscendByNumber
merged_none merged none = subst (AreMergedOf []) (sym none) (record { ascending = tt; same = λ batch. (λ h. h, λ h. h); accepted = accepted_none })
