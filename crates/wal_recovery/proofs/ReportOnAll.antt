-- WALs that are merged one after another: their reports, their numbers, and the order of their segments.
use Rattle.std.proofs.Common.{ℕ, suc, ◌≤◌, inl, inr, List, [], ◌∷◌, ◌++◌, All, Contains, get_or, subst, sym, ap, ◌∙◌, refl, append_assoc}
use Rattle.std.specs.List.{AllByRecursion}
use Rattle.std.proofs.lemmas.List.{append-nil}
use Rattle.std.proofs.lemmas.List.Elements.{Contains-get_or, Contains-append_cases, recursion_from_All}
use Rattle.batch_repr.specs.declared.batch.Batch.{Batch}
use Rattle.batch_repr.specs.declared.limits.TheConstants.{NUMBER_MAX}
use Rattle.batch_repr.specs.Batches.{end_of, end_after}
use Rattle.segment_merge.specs.declared.segment.SegmentRead.{SegmentRead}
use Rattle.segment_merge.specs.Rows.{IsNumbered, IsNumberedSegment, IsRow, batches_in}
use Rattle.segment_merge.specs.Merging.{all_of, Merged}
use Rattle.segment_merge.specs.Lenient.{MergedLenient}
use Rattle.segment_merge.proofs.Laws.{none_within, within_cases}
use Rattle.wal_recovery.specs.declared.reports.SegReport.{SegReport}
use Rattle.wal_recovery.specs.Listing.{Wal, AreByIndex, AreByNumber}
use Rattle.wal_recovery.specs.Reports.{ReportOn, ReportOnAll}

-- the reports on one WAL more
pub reports_push : (wals : List Wal) (wal : Wal) (reports own : List SegReport) → ReportOnAll wals reports → ReportOn wal own
    → ReportOnAll (wals ++ wal ∷ []) (reports ++ own)
unfolding ReportOnAll
reports_push [] wal reports own h on = (own, [], on, refl, ap (λ (l : List SegReport). l ++ own) h ∙ sym (append-nil own))
reports_push (w ∷ wals) wal reports own h on = (
  h.0,
  h.1 ++ own,
  h.2,
  reports_push wals wal h.1 own h.3 on,
  ap (λ (l : List SegReport). l ++ own) h.4 ∙ append_assoc h.0 h.1 own,
)

numbered_in : (row : List SegmentRead) (batch : Batch) → AllByRecursion IsNumberedSegment row → Contains (all_of (batches_in row)) batch → IsNumbered batch
numbered_in [] batch h at = absurd (none_within batch at)
numbered_in (segment ∷ row) batch h at = elim (Contains-append_cases segment.batches (all_of (batches_in row)) batch at) [
  | inl own ↦ subst IsNumbered own.2 (h.0 own.0 batch own.1)
  | inr later ↦ numbered_in row batch h.1 later
]

-- what was merged of a row takes numbers
pub merged_numbered : (first : ℕ) (row : List SegmentRead) (merged : List Batch) → IsRow row → Merged first (batches_in row) merged → All IsNumbered merged
merged_numbered first row merged is m k d lt =
    numbered_in row (get_or merged k d) (recursion_from_All IsNumberedSegment row is.numbered) ((m.same (get_or merged k d)).0 (Contains-get_or merged k d lt))

-- the segments of a listed WAL stand by their indexes
pub by_index_at : (low : ℕ) (wals : List Wal) (wal : Wal) → AreByNumber low wals → Contains wals wal → AreByIndex 0 wal.segments
unfolding AreByNumber
by_index_at low [] wal by at = absurd (none_within wal at)
by_index_at low (w ∷ wals) wal by at = elim (within_cases w wals wal at) [
  | inl e ↦ subst (λ (x : Wal). AreByIndex 0 x.segments) e by.2
  | inr later ↦ by_index_at (suc w.number) wals wal by.3 later
]

-- and so does what was merged with gaps
pub lenient_numbered : (row : List SegmentRead) (merged : List Batch) → AllByRecursion IsNumberedSegment row
    → MergedLenient (batches_in row) merged → All IsNumbered merged
lenient_numbered row merged numbered m k d lt =
    numbered_in row (get_or merged k d) numbered ((m.same (get_or merged k d)).0 (Contains-get_or merged k d lt))

ends_within : (n : ℕ) (own : List Batch) → n ≤ NUMBER_MAX → AllByRecursion IsNumbered own → end_after n own ≤ NUMBER_MAX
unfolding end_after
ends_within n [] low h = low
ends_within n (b ∷ own) low h = ends_within (end_of b) own h.0.within h.1

-- batches that take numbers end within the numbers
pub end_within : (n : ℕ) (own : List Batch) → n ≤ NUMBER_MAX → All IsNumbered own → end_after n own ≤ NUMBER_MAX
end_within n own low all = ends_within n own low (recursion_from_All IsNumbered own all)
