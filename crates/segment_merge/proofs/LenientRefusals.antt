-- Where gaps are accepted, a row has one answer.
use Rattle.std.proofs.Common.{◌≡◌, ℕ, List, [], ◌∷◌, ◌++◌, sym, subst, ap, ◌∙◌, Result, Ok, Err, append_assoc}
use Rattle.std.specs.Prelude.{IfErr}
use Rattle.std.proofs.lemmas.List.{append-nil}
use Rattle.std.proofs.lemmas.List.Concat.{flat_map-append}
use Rattle.batch_repr.specs.declared.batch.Batch.{Batch}
use Rattle.segment_merge.specs.declared.segment.SegmentRead.{SegmentRead}
use Rattle.segment_merge.specs.declared.fault.MergeFault.{MergeFault}
use Rattle.segment_merge.specs.declared.fault.MergeFault.TheVariants as faults
use Rattle.segment_merge.specs.Rows.{batches_in}
use Rattle.segment_merge.specs.Merging.{all_of}
use Rattle.segment_merge.specs.Lenient.{IsAccepted, MergedLenient, IsLenientConflict, IsRowLenientlyRefused}
use Rattle.segment_merge.specs.Returned.{MergedOrMemory, RefusedOrMemory, MemoryOrRefusal, IsNoGap}
use Rattle.segment_merge.specs.Keeping.{Kept}
use Rattle.segment_merge.specs.Steps.{KeepsLenient}
use Rattle.segment_merge.proofs.Places.{Places, sooner, one, later, places}
use Rattle.segment_merge.proofs.IsFirstWrong.{cut_row}
use Rattle.segment_merge.proofs.OneLenient.{one_lenient}
use Rattle.segment_merge.proofs.LenientPass.{accepted_front}

none_accepted : (segments : List SegmentRead) (i f : ℕ) (w : IsLenientConflict segments i f) (mid rest : List Batch)
    → IsAccepted (all_of (batches_in w.before) ++ ((w.front ++ w.batch ∷ mid) ++ rest)) → ⊥
none_accepted segments i f w mid rest a =
    let front = all_of (batches_in w.before) in
    let is : front ++ ((w.front ++ w.batch ∷ mid) ++ rest) ≡ (front ++ w.front) ++ w.batch ∷ (mid ++ rest) =
    ap (λ xs. front ++ xs) (append_assoc w.front (w.batch ∷ mid) rest) ∙ sym (append_assoc front w.front (w.batch ∷ (mid ++ rest))) in
    w.wrong (a (front ++ w.front) w.batch (mid ++ rest) is)

-- the batches of a row, with the segment of the conflict cut at it
row_is : (segments row : List SegmentRead) (i f : ℕ) (w : IsLenientConflict segments i f) (after : List SegmentRead) → row ≡ w.before ++ w.segment ∷ after
    → all_of (batches_in row) ≡ all_of (batches_in w.before) ++ ((w.front ++ w.batch ∷ w.back) ++ all_of (batches_in after))
row_is segments row i f w after is =
    ap all_of (cut_row row w.before w.segment after (w.front ++ w.batch ∷ w.back) is w.cut)
    ∙ flat_map-append (λ s. s) (batches_in w.before) ((w.front ++ w.batch ∷ w.back) ∷ batches_in after)

pub merged_or_conflict : (segments : List SegmentRead) (merged : List Batch) (i f : ℕ) → MergedLenient (batches_in segments) merged
    → IsLenientConflict segments i f → ⊥
merged_or_conflict segments merged i f m w =
    none_accepted segments i f w w.back (all_of (batches_in w.after)) (subst (λ xs. IsAccepted xs) (row_is segments segments i f w w.after w.row) m.accepted)

module _ (segments : List SegmentRead) (i f i' f' : ℕ) where
  row_sooner : (w : IsLenientConflict segments i f) (v : IsLenientConflict segments i' f') (mid : List SegmentRead) → v.before ≡ w.before ++ w.segment ∷ mid → ⊥
  row_sooner w v mid is =
      none_accepted segments i f w w.back (all_of (batches_in mid))
      (subst (λ xs. IsAccepted xs) (row_is segments v.before i f w mid is) (accepted_front (all_of (batches_in v.before)) v.front v.right))

  batch_sooner : (w : IsLenientConflict segments i f) (v : IsLenientConflict segments i' f') (mid : List Batch) → w.before ≡ v.before
      → v.front ≡ w.front ++ w.batch ∷ mid → ⊥
  batch_sooner w v mid same is =
      none_accepted segments i f w mid []
      (subst (λ xs. IsAccepted (all_of (batches_in w.before) ++ xs)) (is ∙ sym (append-nil (w.front ++ w.batch ∷ mid)))
      (subst (λ b. IsAccepted (all_of (batches_in b) ++ v.front)) (sym same) v.right))

pub one_conflict : (segments : List SegmentRead) (i f i' f' : ℕ) → IsLenientConflict segments i f → IsLenientConflict segments i' f'
    → faults.Conflict i f ≡ faults.Conflict i' f'
one_conflict segments i f i' f' w v = of_rows (places w.before w.segment w.after v.before v.segment v.after (sym w.row ∙ v.row))
  where
    of_batches : w.before ≡ v.before → w.segment ≡ v.segment → Places w.front w.batch w.back v.front v.batch v.back
        → faults.Conflict i f ≡ faults.Conflict i' f'
    of_batches same segs (sooner mid is) = absurd (batch_sooner segments i f i' f' w v mid same is)
    of_batches same segs (one fronts batches backs) =
        let index : i ≡ i' = w.index_is ∙ ap (λ (s : SegmentRead). s.index) segs ∙ sym v.index_is in
        let found : f ≡ f' = w.found_is ∙ ap (λ (b : Batch). b.first) batches ∙ sym v.found_is in
        λ k. faults.Conflict (index k) (found k)
    of_batches same segs (later mid is) = absurd (batch_sooner segments i' f' i f v w mid (sym same) is)

    of_rows : Places w.before w.segment w.after v.before v.segment v.after → faults.Conflict i f ≡ faults.Conflict i' f'
    of_rows (sooner mid is) = absurd (row_sooner segments i f i' f' w v mid is)
    of_rows (one befores segs afters) = of_batches befores segs
        (places w.front w.batch w.back v.front v.batch v.back (sym w.cut ∙ ap (λ (s : SegmentRead). s.batches) segs ∙ v.cut))
    of_rows (later mid is) = absurd (row_sooner segments i' f' i f v w mid is)

pub one_refusal : (segments : List SegmentRead) (one other : MergeFault) → IsRowLenientlyRefused segments one
    → IsRowLenientlyRefused segments other → one ≡ other
one_refusal segments (faults.Conflict i f) (faults.Conflict i' f') a g = one_conflict segments i f i' f' a g
one_refusal segments (faults.Conflict i f) (faults.Gap i' e' f') a g = absurd g
one_refusal segments (faults.Conflict i f) faults.NoMemory a g = absurd g
one_refusal segments (faults.Gap i e f) other a g = absurd a
one_refusal segments faults.NoMemory other a g = absurd a

pub merged_or_refused : (segments : List SegmentRead) (merged : List Batch) (fault : MergeFault)
    → MergedLenient (batches_in segments) merged → IsRowLenientlyRefused segments fault → ⊥
merged_or_refused segments merged (faults.Conflict i f) m r = merged_or_conflict segments merged i f m r
merged_or_refused segments merged (faults.Gap i e f) m r = r
merged_or_refused segments merged faults.NoMemory m r = r

-- ---- what holds is answered

-- The list without repeated batches, or why there is none.
abbrev pub Answers : List SegmentRead → Result (List Batch) MergeFault → Type 0
Answers segments (Ok merged) = MergedLenient (batches_in segments) merged
Answers segments (Err fault) = MemoryOrRefusal (IsRowLenientlyRefused segments) fault

pub is_merged : (segments : List SegmentRead) (kept : Kept) → KeepsLenient (all_of (batches_in segments)) kept
    → MergedLenient (batches_in segments) kept.batches
is_merged segments kept k = record { ascending = k.ascending; same = k.same; accepted = k.accepted }

pub why_refused : (segments : List SegmentRead) (result : Result (List Batch) MergeFault) → Answers segments result
    → IfErr result (MemoryOrRefusal (IsRowLenientlyRefused segments))
why_refused segments (Ok kept) a = tt
why_refused segments (Err fault) a = a

pub never_gap : (segments : List SegmentRead) (result : Result (List Batch) MergeFault) → Answers segments result → IfErr result IsNoGap
never_gap segments (Ok kept) a = tt
never_gap segments (Err (faults.Gap i e f)) a = a
never_gap segments (Err (faults.Conflict i f)) a = tt
never_gap segments (Err faults.NoMemory) a = tt

pub only_merged : (segments : List SegmentRead) (result : Result (List Batch) MergeFault) → Answers segments result → (merged : List Batch)
    → MergedLenient (batches_in segments) merged
    → MergedOrMemory result merged
only_merged segments (Ok kept) a whole m = one_lenient (batches_in segments) kept whole a m
only_merged segments (Err (faults.Gap i e f)) a whole m = a
only_merged segments (Err (faults.Conflict i f)) a whole m = merged_or_conflict segments whole i f m a
only_merged segments (Err faults.NoMemory) a whole m = tt

pub only_conflict : (segments : List SegmentRead) (result : Result (List Batch) MergeFault) → Answers segments result → (i f : ℕ)
    → IsLenientConflict segments i f
    → RefusedOrMemory result (faults.Conflict i f)
only_conflict segments (Ok kept) a i f g = merged_or_conflict segments kept i f a g
only_conflict segments (Err (faults.Gap i' e' f')) a i f g = absurd a
only_conflict segments (Err (faults.Conflict i' f')) a i f g = one_conflict segments i' f' i f a g
only_conflict segments (Err faults.NoMemory) a i f g = tt
