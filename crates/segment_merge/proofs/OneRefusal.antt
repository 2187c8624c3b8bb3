-- A row has at most one refusal.
use Rattle.std.proofs.Common.{◌≡◌, ℕ, List, [], ◌∷◌, ◌++◌, sym, subst, ap, ◌∙◌, arith, append_assoc}
use Rattle.batch_repr.specs.declared.batch.Batch.{Batch}
use Rattle.segment_merge.specs.declared.segment.SegmentRead.{SegmentRead}
use Rattle.segment_merge.specs.declared.fault.MergeFault.{MergeFault}
use Rattle.segment_merge.specs.declared.fault.MergeFault.TheVariants as faults
use Rattle.segment_merge.specs.Rows.{batches_in}
use Rattle.segment_merge.specs.Merging.{Merged}
use Rattle.segment_merge.specs.Refusals.{expected_after, IsFirstWrong, IsGap, IsConflict, IsRowRefused}
use Rattle.segment_merge.proofs.Places.{Places, sooner, one, later, places}
use Rattle.segment_merge.proofs.IsFirstWrong.{grows, merged_or_wrong, cut_row}

-- no row that goes on after a first wrong batch merges
none_behind : (first : ℕ) (segments : List SegmentRead) (i e : ℕ) (b : Batch) (w : IsFirstWrong first segments i e b) (mid : List Batch)
    (after : List (List Batch)) (kept : List Batch)
    → Merged first (batches_in w.before ++ (w.front ++ b ∷ mid) ∷ after) kept → ⊥
none_behind first segments i e b w mid after kept m =
    let more = grows first (batches_in w.before) w.front b mid after kept w.kept m w.right in w.wrong more.0 more.1

pub record IsSame (i e : ℕ) (b : Batch) (i' e' : ℕ) (b' : Batch) : Type 0 where
  pub index : i ≡ i'
  pub expected : e ≡ e'
  pub batch : b ≡ b'

module _ (first : ℕ) (segments : List SegmentRead) (i e : ℕ) (b : Batch) (i' e' : ℕ) (b' : Batch) where
  -- the second stands later in the row
  row_sooner : (w : IsFirstWrong first segments i e b) (v : IsFirstWrong first segments i' e' b') (mid : List SegmentRead)
      → v.before ≡ w.before ++ w.segment ∷ mid → ⊥
  row_sooner w v mid is =
      let row : batches_in v.before ++ v.front ∷ [] ≡ batches_in w.before ++ (w.front ++ b ∷ w.back) ∷ (batches_in mid ++ v.front ∷ []) =
      ap (λ s. s ++ v.front ∷ []) (cut_row v.before w.before w.segment mid (w.front ++ b ∷ w.back) is w.cut)
      ∙ append_assoc (batches_in w.before) ((w.front ++ b ∷ w.back) ∷ batches_in mid) (v.front ∷ []) in
      none_behind first segments i e b w w.back (batches_in mid ++ v.front ∷ []) v.kept (subst (λ s. Merged first s v.kept) row v.right)

  -- the second stands later in the same segment
  batch_sooner : (w : IsFirstWrong first segments i e b) (v : IsFirstWrong first segments i' e' b') (mid : List Batch) → w.before ≡ v.before
      → v.front ≡ w.front ++ b ∷ mid → ⊥
  batch_sooner w v mid same is =
      none_behind first segments i e b w mid [] v.kept
      (subst (λ s. Merged first (batches_in s ++ (w.front ++ b ∷ mid) ∷ []) v.kept) (sym same)
      (subst (λ f. Merged first (batches_in v.before ++ f ∷ []) v.kept) is v.right))

pub one_wrong : (first : ℕ) (segments : List SegmentRead) (i e : ℕ) (b : Batch) (i' e' : ℕ) (b' : Batch) → IsFirstWrong first segments i e b
    → IsFirstWrong first segments i' e' b'
    → IsSame i e b i' e' b'
one_wrong first segments i e b i' e' b' w v =
    of_rows (places w.before w.segment w.after v.before v.segment v.after (sym w.row ∙ v.row))
  where
    of_batches : w.before ≡ v.before → w.segment ≡ v.segment → Places w.front b w.back v.front b' v.back → IsSame i e b i' e' b'
    of_batches same segs (sooner mid is) = absurd (batch_sooner first segments i e b i' e' b' w v mid same is)
    of_batches same segs (one fronts batches backs) = record {
      index = w.index_is ∙ ap (λ (s : SegmentRead). s.index) segs ∙ sym v.index_is;
      expected = w.expected_is ∙ ap (λ s. expected_after first (batches_in s) w.front) same
          ∙ ap (expected_after first (batches_in v.before)) fronts ∙ sym v.expected_is;
      batch = batches;
    }
    of_batches same segs (later mid is) = absurd (batch_sooner first segments i' e' b' i e b v w mid (sym same) is)

    of_rows : Places w.before w.segment w.after v.before v.segment v.after → IsSame i e b i' e' b'
    of_rows (sooner mid is) = absurd (row_sooner first segments i e b i' e' b' w v mid is)
    of_rows (one befores segs afters) = of_batches befores segs
        (places w.front b w.back v.front b' v.back (sym w.cut ∙ ap (λ (s : SegmentRead). s.batches) segs ∙ v.cut))
    of_rows (later mid is) = absurd (row_sooner first segments i' e' b' i e b v w mid is)

pub one_gap : (first : ℕ) (segments : List SegmentRead) (i e f i' e' f' : ℕ) → IsGap first segments i e f → IsGap first segments i' e' f'
    → faults.Gap i e f ≡ faults.Gap i' e' f'
one_gap first segments i e f i' e' f' a g =
    let s = one_wrong first segments i e a.batch i' e' g.batch a.wrong g.wrong in
    let x : f ≡ f' = a.found_is ∙ ap (λ (b : Batch). b.first) s.batch ∙ sym g.found_is in
    λ k. faults.Gap (s.index k) (s.expected k) (x k)

pub one_conflict : (first : ℕ) (segments : List SegmentRead) (i f i' f' : ℕ) → IsConflict first segments i f
    → IsConflict first segments i' f' → faults.Conflict i f ≡ faults.Conflict i' f'
one_conflict first segments i f i' f' a g =
    let s = one_wrong first segments i a.expected a.batch i' g.expected g.batch a.wrong g.wrong in
    let x : f ≡ f' = a.found_is ∙ ap (λ (b : Batch). b.first) s.batch ∙ sym g.found_is in
    λ k. faults.Conflict (s.index k) (x k)

pub gap_or_conflict : (first : ℕ) (segments : List SegmentRead) (i e f i' f' : ℕ) → IsGap first segments i e f → IsConflict first segments i' f' → ⊥
gap_or_conflict first segments i e f i' f' a g =
    let s = one_wrong first segments i e a.batch i' g.expected g.batch a.wrong g.wrong in
    omega (arith, g.within, a.above, s.expected, ap (λ (b : Batch). b.first) s.batch)

pub one_refusal : (first : ℕ) (segments : List SegmentRead) (one other : MergeFault) → IsRowRefused first segments one
    → IsRowRefused first segments other → one ≡ other
one_refusal first segments (faults.Gap i e f) (faults.Gap i' e' f') a g = one_gap first segments i e f i' e' f' a g
one_refusal first segments (faults.Gap i e f) (faults.Conflict i' f') a g = absurd (gap_or_conflict first segments i e f i' f' a g)
one_refusal first segments (faults.Conflict i f) (faults.Gap i' e' f') a g = absurd (gap_or_conflict first segments i' e' f' i f g a)
one_refusal first segments (faults.Conflict i f) (faults.Conflict i' f') a g = one_conflict first segments i f i' f' a g
one_refusal first segments faults.NoMemory other a g = absurd a
one_refusal first segments (faults.Gap i e f) faults.NoMemory a g = absurd g
one_refusal first segments (faults.Conflict i f) faults.NoMemory a g = absurd g

-- A row that is merged is not refused.
pub merged_or_refused : (first : ℕ) (segments : List SegmentRead) (merged : List Batch) (fault : MergeFault)
    → Merged first (batches_in segments) merged → IsRowRefused first segments fault → ⊥
merged_or_refused first segments merged (faults.Gap i e f) m r = merged_or_wrong first segments merged i e r.batch m r.wrong
merged_or_refused first segments merged (faults.Conflict i f) m r = merged_or_wrong first segments merged i r.expected r.batch m r.wrong
merged_or_refused first segments merged faults.NoMemory m r = r
