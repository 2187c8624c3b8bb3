-- A row that merges has no first wrong batch.
use Rattle.batch_repr.proofs.Laws.{contiguous_back, contiguous_front, place_within}
use Rattle.std.proofs.Common.{◌≡◌, inl, inr, ℕ, ◌<◌, List, [], ◌∷◌, ◌++◌, sym, subst, ap, ◌∙◌, arith}
use Rattle.std.specs.Prelude.{Contains}
use Rattle.std.proofs.lemmas.List.{append_assoc, map-append}
use Rattle.std.proofs.lemmas.List.Concat.{flat_map-append}
use Rattle.std.proofs.lemmas.List.Elements.{Contains-append_left, Contains-append_right, Contains-append_cases}
use Rattle.batch_repr.specs.declared.batch.Batch.{Batch}
use Rattle.batch_repr.specs.Batches.{count_of, end_after, IsContiguous}
use Rattle.segment_merge.specs.Merging.{Merged, all_of, greatest_end, BeginsBy, AreSegmentsJoined}
use Rattle.segment_merge.specs.declared.segment.SegmentRead.{SegmentRead}
use Rattle.segment_merge.specs.Rows.{batches_in}
use Rattle.segment_merge.specs.Refusals.{expected_after, IsFirstWrong}
use Rattle.wal_base.proofs.Laws.{within_head}
use Rattle.segment_merge.proofs.Unique.{is_front}
use Rattle.segment_merge.proofs.Pass.{all_with, joined_back, follows_only, MayFollow, appended, skipped, at_most_next}

-- the batches of a row that is cut are among those of the row
within_row : (before : List (List Batch)) (front back : List Batch) (after : List (List Batch)) (b : Batch) → Contains (all_of (before ++ front ∷ [])) b
    → Contains (all_of (before ++ (front ++ back) ∷ after)) b
within_row before front back after b h =
    let row : all_of (before ++ (front ++ back) ∷ after) ≡ all_of before ++ ((front ++ back) ++ all_of after) = flat_map-append
    (λ s. s) before ((front ++ back) ∷ after) in
    subst (λ xs. Contains xs b) (sym row) (elim (Contains-append_cases (all_of before) front b (subst (λ xs. Contains xs b) (all_with before front) h)) [
      | inl old ↦ Contains-append_left (all_of before) ((front ++ back) ++ all_of after) b old
      | inr here ↦ Contains-append_right (all_of before) ((front ++ back) ++ all_of after) b
          (Contains-append_left (front ++ back) (all_of after) b (Contains-append_left front back b here))
    ])

head_joined : (bound : ℕ) (segment : List Batch) (after : List (List Batch)) → AreSegmentsJoined bound (segment ∷ after) → BeginsBy bound segment
unfolding AreSegmentsJoined
head_joined bound segment after j = j.0

begins_cut : (bound : ℕ) (front back : List Batch) → BeginsBy bound (front ++ back) → BeginsBy bound front
begins_cut bound [] back b = tt
begins_cut bound (a ∷ front) back b = (b.0, contiguous_front a.first (a ∷ front) back b.1)

begins_some : (bound : ℕ) (front : List Batch) (batch : Batch) → BeginsBy bound (front ++ batch ∷ []) → 0 < count_of batch.entries
unfolding IsContiguous
begins_some bound [] batch b = b.1.1
begins_some bound (a ∷ front) batch b = (contiguous_back a.first (a ∷ front) (batch ∷ []) b.1).1

-- In a row that merges, a cut that merges may be moved after the next batch.
pub grows : (first : ℕ) (before : List (List Batch)) (front : List Batch) (batch : Batch) (back : List Batch) (after : List (List Batch))
    (merged kept : List Batch)
    → Merged first (before ++ (front ++ batch ∷ back) ∷ after) merged → Merged first (before ++ front ∷ []) kept
    → (more : List Batch) × Merged first (before ++ (front ++ batch ∷ []) ∷ []) more
grows first before front batch back after merged kept whole cut =
    elim (Contains-append_cases kept rest.0 batch (subst (λ xs. Contains xs batch) rest.1 there)) [
      | inl old ↦ (kept, skipped first before front kept batch cut may some old)
      | inr new ↦
          let low = (place_within (end_after first kept) rest.0 batch
          (contiguous_back first kept rest.0 (subst (λ xs. IsContiguous first xs) rest.1 whole.contiguous)) new).low in
          let up = at_most_next first before front kept batch cut may in
          (kept ++ batch ∷ [], appended first before front kept batch cut may some (omega (arith, low, up)))
    ]
  where
    begins : BeginsBy (greatest_end first (all_of before)) (front ++ batch ∷ [])
    begins = begins_cut (greatest_end first (all_of before)) (front ++ batch ∷ []) back
        (subst (λ s. BeginsBy (greatest_end first (all_of before)) s) (sym (append_assoc front (batch ∷ []) back))
        (head_joined (greatest_end first (all_of before)) (front ++ batch ∷ back) after
        (joined_back first before ((front ++ batch ∷ back) ∷ after) whole.joined)))

    may : MayFollow (expected_after first before front) front batch
    may = follows_only (greatest_end first (all_of before)) front batch begins

    some : 0 < count_of batch.entries
    some = begins_some (greatest_end first (all_of before)) front batch begins

    rest : (rest : List Batch) × (merged ≡ kept ++ rest)
    rest = is_front first kept merged cut.contiguous whole.contiguous
        (λ b h. (whole.same b).1 (within_row before front (batch ∷ back) after b ((cut.same b).0 h)))

    there : Contains merged batch
    there = (whole.same batch).1 (subst (λ xs. Contains xs batch)
        (sym (flat_map-append (λ s. s) before ((front ++ batch ∷ back) ∷ after)))
        (Contains-append_right (all_of before) ((front ++ batch ∷ back) ++ all_of after) batch
        (Contains-append_left (front ++ batch ∷ back) (all_of after) batch
        (Contains-append_right front (batch ∷ back) batch (within_head batch back)))))

-- the row, with the segment of a batch cut at it
pub cut_row : (segments before : List SegmentRead) (segment : SegmentRead) (after : List SegmentRead) (split : List Batch)
    → segments ≡ before ++ segment ∷ after → segment.batches ≡ split
    → batches_in segments ≡ batches_in before ++ split ∷ batches_in after
cut_row segments before segment after split row cut =
    ap batches_in row ∙ map-append (λ (s : SegmentRead). s.batches) before (segment ∷ after) ∙ ap (λ b. batches_in before ++ b ∷ batches_in after) cut

-- A row that merges has no first wrong batch.
pub merged_or_wrong : (first : ℕ) (segments : List SegmentRead) (merged : List Batch) (index expected : ℕ) (batch : Batch)
    → Merged first (batches_in segments) merged
    → IsFirstWrong first segments index expected batch → ⊥
merged_or_wrong first segments merged index expected batch m w =
    let is = cut_row segments w.before w.segment w.after (w.front ++ batch ∷ w.back) w.row w.cut in
    let more = grows first (batches_in w.before) w.front batch w.back (batches_in w.after) merged w.kept (subst (λ s. Merged first s merged) is m) w.right in
    w.wrong more.0 more.1
