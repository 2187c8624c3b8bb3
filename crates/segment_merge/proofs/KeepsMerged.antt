-- From what a step does to the merged list: through a segment, and from segment to segment.
use Rattle.batch_repr.proofs.Laws.{end_append, end_push}
use Rattle.std.proofs.Common.{◌≡◌, ◌≢◌, inl, inr, ◌⊎◌, ℕ, ◌+◌, ◌≤◌, ◌<◌, Bool, take, drop, get_or, true, false, List, [], ◌∷◌, ◌++◌, length, sym, subst, ap, ◌∙◌, refl, arith, Result, Ok, Err}
use Rattle.std.proofs.lemmas.List.{take_more, drop_more, take-append-drop, map-append}
use Rattle.std.specs.Prelude.{IfErr}
use Rattle.batch_repr.specs.declared.batch.Batch.{Batch}
use Rattle.batch_repr.specs.Batches.{end_of, end_after, IsContiguous}
use Rattle.segment_merge.specs.declared.segment.SegmentRead.{SegmentRead}
use Rattle.segment_merge.specs.declared.fault.MergeFault.{MergeFault}
use Rattle.segment_merge.specs.declared.fault.MergeFault.TheVariants as faults
use Rattle.segment_merge.specs.Rows.{IsNumbered, batches_in}
use Rattle.segment_merge.specs.Merging.{Merged, all_of, greatest_end}
use Rattle.segment_merge.specs.Refusals.{expected_after, IsFirstWrong, IsGap, IsConflict, IsRowRefused}
use Rattle.segment_merge.specs.Returned.{MergedOrMemory, RefusedOrMemory, MemoryOrRefusal}
use Rattle.segment_merge.specs.Keeping.{Kept, IsWholeFrom}
use Rattle.segment_merge.specs.Steps.{Follows, IsAppended, IsSkipped, IsDenied, Steps, KeepsMerged}
use Rattle.segment_merge.proofs.Unique.{one_merged}
use Rattle.segment_merge.proofs.Pass.{MayFollow, taken, appended, skipped, none_out_of_order, none_denied, at_most_next, next_segment, nothing_merged, next_is as next_number}
use Rattle.segment_merge.proofs.IsFirstWrong.{merged_or_wrong}
use Rattle.segment_merge.proofs.OneRefusal.{one_gap, one_conflict, gap_or_conflict}

-- the flag says whether the segment has begun
abbrev pub IsFlag : Bool → List Batch → Type 0
IsFlag true front = front ≡ []
IsFlag false front = front ≢ []

may_follow : (is_first : Bool) (front : List Batch) (expected : ℕ) (batch : Batch) → IsFlag is_first front
    → Follows is_first expected batch.first → MayFollow expected front batch
may_follow true [] expected batch flag follows = follows
may_follow true (a ∷ front) expected batch flag follows = absurd cc
may_follow false [] expected batch flag follows = absurd (flag refl)
may_follow false (a ∷ front) expected batch flag follows = follows

follows_back : (is_first : Bool) (front : List Batch) (expected : ℕ) (batch : Batch) → IsFlag is_first front
    → MayFollow expected front batch → Follows is_first expected batch.first
follows_back true [] expected batch flag may = may
follows_back true (a ∷ front) expected batch flag may = absurd cc
follows_back false [] expected batch flag may = absurd (flag refl)
follows_back false (a ∷ front) expected batch flag may = may

begun : (front : List Batch) (batch : Batch) → front ++ batch ∷ [] ≢ []
begun [] batch e = absurd cc
begun (a ∷ front) batch e = absurd cc

pub expected_more : (first : ℕ) (before : List (List Batch)) (front : List Batch) (batch : Batch)
    → expected_after first before (front ++ batch ∷ []) ≡ end_of batch
unfolding end_after
expected_more first before front batch = end_append (greatest_end first (all_of before)) front (batch ∷ [])

-- the segment is merged up to here
pub record IsUpTo (first : ℕ) (before : List (List Batch)) (front : List Batch) (kept : Kept) (expected : ℕ) (is_first : Bool) : Type 0 where
  pub merged : KeepsMerged first (before ++ front ∷ []) kept
  pub expected_is : expected ≡ expected_after first before front
  pub flag : IsFlag is_first front

pub up_to_none : (first : ℕ) (before : List (List Batch)) (kept : Kept) → KeepsMerged first before kept → IsUpTo first before [] kept kept.next true
unfolding end_after
up_to_none first before kept m = record {
  merged = record { merged = next_segment first before kept.batches m.merged; next_is = m.next_is };
  expected_is = m.next_is ∙ next_number first before kept.batches m.merged;
  flag = refl;
}

-- one batch more
module _ (first : ℕ) (before : List SegmentRead) (front : List Batch) (kept : Kept) (batch : Batch) (expected : ℕ) (is_first : Bool)
    (up : IsUpTo first (batches_in before) front kept expected is_first) (numbered : IsNumbered batch) where
  merged : Merged first (batches_in before ++ front ∷ []) kept.batches
  merged = up.merged.merged

  may : Follows is_first expected batch.first → MayFollow (expected_after first (batches_in before) front) front batch
  may follows = subst (λ n. MayFollow n front batch) up.expected_is (may_follow is_first front expected batch up.flag follows)

  back_may : MayFollow (expected_after first (batches_in before) front) front batch → Follows is_first expected batch.first
  back_may m = follows_back is_first front expected batch up.flag (subst (λ n. MayFollow n front batch) (sym up.expected_is) m)

  stepped : (new : Kept) → Follows is_first expected batch.first → IsAppended kept new batch ⊎ IsSkipped kept new batch
      → KeepsMerged first (batches_in before ++ (front ++ batch ∷ []) ∷ []) new
  stepped new follows (inl a) = record {
    merged = subst (λ m. Merged first (batches_in before ++ (front ++ batch ∷ []) ∷ []) m) (sym a.new_is)
        (appended first (batches_in before) front kept.batches batch merged (may follows) numbered.some (a.at ∙ up.merged.next_is));
    next_is = a.next_is ∙ sym (ap (end_after first) a.new_is ∙ end_push first kept.batches batch);
  }
  stepped new follows (inr s) = record {
    merged = subst (λ m. Merged first (batches_in before ++ (front ++ batch ∷ []) ∷ []) m) (sym s.new_is)
        (skipped first (batches_in before) front kept.batches batch merged (may follows) numbered.some s.kept);
    next_is = s.next_is ∙ up.merged.next_is ∙ sym (ap (end_after first) s.new_is);
  }

  more : (new : Kept) → Follows is_first expected batch.first → IsAppended kept new batch ⊎ IsSkipped kept new batch
      → IsUpTo first (batches_in before) (front ++ batch ∷ []) new (end_of batch) false
  more new follows how = record {
    merged = stepped new follows how;
    expected_is = sym (expected_more first (batches_in before) front batch);
    flag = begun front batch;
  }

  module _ (segment : SegmentRead) (back : List Batch) (cut : segment.batches ≡ front ++ batch ∷ back) (later : List SegmentRead) where
    wrong_here : ((m : List Batch) → Merged first (batches_in before ++ (front ++ batch ∷ []) ∷ []) m → ⊥)
        → IsFirstWrong first (before ++ segment ∷ later) segment.index expected batch
    wrong_here none = record {
      before = before;
      segment = segment;
      after = later;
      row = refl;
      index_is = refl;
      front = front;
      back = back;
      cut = cut;
      expected_is = up.expected_is;
      kept = kept.batches;
      right = merged;
      wrong = none;
    }

    gap_here : expected < batch.first → IsGap first (before ++ segment ∷ later) segment.index expected batch.first
    gap_here above = record {
      batch = batch;
      wrong = wrong_here (none_out_of_order first (batches_in before) front kept.batches batch merged
          (λ m. let f : batch.first ≤ expected = within is_first (back_may m) in omega (arith, f, above)));
      above = above;
      found_is = refl;
    }
      where
        within : (b : Bool) → Follows b expected batch.first → batch.first ≤ expected
        within true f = f
        within false f = omega (arith, f)

    conflict_here : IsDenied kept expected is_first batch → IsConflict first (before ++ segment ∷ later) segment.index batch.first
    conflict_here denied = record {
      expected = expected;
      batch = batch;
      wrong = wrong_here (elim denied.wrong [
        | inl out ↦ none_out_of_order first (batches_in before) front kept.batches batch merged (λ m. out (back_may m))
        | inr (follows, apart, unkept) ↦ none_denied first (batches_in before) front kept.batches batch merged
            (let up_next : batch.first ≤ end_after first kept.batches = at_most_next first (batches_in before) front kept.batches batch merged (may follows) in
            let ne : batch.first ≢ end_after first kept.batches = (λ e. apart (e ∙ sym up.merged.next_is)) in omega (arith, up_next, ne)) unkept
      ]);
      within = denied.within;
      found_is = refl;
    }

-- ---- the loop through a segment

module _ (first : ℕ) (before : List SegmentRead) (segment : SegmentRead) (kept : Kept) (expected : ℕ) (is_first : Bool) (i : ℕ) (batch : Batch)
    (up : IsUpTo first (batches_in before) (take i segment.batches) kept expected is_first) (below : i < length segment.batches)
    (is : batch ≡ get_or segment.batches i batch) (numbered : IsNumbered batch) where
  front_more : take (i + 1) segment.batches ≡ take i segment.batches ++ batch ∷ []
  front_more = take_more segment.batches i batch below ∙ ap (λ b. take i segment.batches ++ b ∷ []) (sym is)

  cut_here : segment.batches ≡ take i segment.batches ++ batch ∷ drop (i + 1) segment.batches
  cut_here = sym (ap (λ xs. take i segment.batches ++ xs) (sym (drop_more segment.batches i batch below
      ∙ ap (λ b. b ∷ drop (i + 1) segment.batches) (sym is))) ∙ take-append-drop i segment.batches)

  pub up_to_more : (new : Kept) (done : Unit {0}) → Steps kept new expected is_first segment.index batch (Ok done)
      → IsUpTo first (batches_in before) (take (i + 1) segment.batches) new (end_of batch) false
  up_to_more new done s =
      subst (λ f. IsUpTo first (batches_in before) f new (end_of batch) false) (sym front_more)
      (more first before (take i segment.batches) kept batch expected is_first up numbered new s.0 s.1)

  pub up_to_refused : (new : Kept) (fault : MergeFault) → Steps kept new expected is_first segment.index batch (Err fault)
      → (later : List SegmentRead) → MemoryOrRefusal (IsRowRefused first (before ++ segment ∷ later)) fault
  up_to_refused new (faults.Gap k e f) s later =
      rw (s.0, s.1, s.2) (gap_here first before (take i segment.batches) kept batch expected is_first up numbered segment
      (drop (i + 1) segment.batches) cut_here later s.3)
  up_to_refused new (faults.Conflict k f) s later =
      rw (s.0, s.1) (conflict_here first before (take i segment.batches) kept batch expected is_first up numbered segment
      (drop (i + 1) segment.batches) cut_here later s.2)
  up_to_refused new faults.NoMemory s later = tt

-- the whole segment
pub up_to_all : (first : ℕ) (before : List SegmentRead) (segment : SegmentRead) (kept : Kept) (expected : ℕ) (is_first : Bool)
    → IsUpTo first (batches_in before) segment.batches kept expected is_first → KeepsMerged first (batches_in (before ++ segment ∷ [])) kept
up_to_all first before segment kept expected is_first up =
    subst (λ s. KeepsMerged first s kept) (sym (map-append (λ (s : SegmentRead). s.batches) before (segment ∷ []))) up.merged

-- where nothing is kept yet, a segment that is contiguous is kept as it is
pub taken_over : (first : ℕ) (before : List SegmentRead) (segment : SegmentRead) (kept : Kept) (end : ℕ)
    → KeepsMerged first (batches_in before) kept → kept.batches ≡ [] → IsWholeFrom kept.next segment.batches end
    → KeepsMerged first (batches_in (before ++ segment ∷ [])) (record { batches = segment.batches; next = end })
unfolding end_after
taken_over first before segment kept end k none whole =
    let begins : kept.next ≡ first = k.next_is ∙ ap (end_after first) none in
    subst (λ s. KeepsMerged first s (record { batches = segment.batches; next = end }))
    (sym (map-append (λ (s : SegmentRead). s.batches) before (segment ∷ [])))
    (record {
      merged = taken first (batches_in before) segment.batches (subst (λ m. Merged first (batches_in before) m) none k.merged)
          (subst (λ n. IsContiguous n segment.batches) begins whole.contiguous);
      next_is = whole.end_is ∙ ap (λ n. end_after n segment.batches) begins;
    })

-- ---- the loop through the row

pub none_kept : (first : ℕ) (kept : Kept) → kept.batches ≡ [] → kept.next ≡ first → KeepsMerged first [] kept
unfolding end_after
none_kept first kept none next = record {
  merged = subst (λ m. Merged first [] m) (sym none) (nothing_merged first);
  next_is = next ∙ sym (ap (end_after first) none);
}

module _ (segments : List SegmentRead) (i : ℕ) (segment : SegmentRead) (below : i < length segments) (is : segment ≡ get_or segments i segment) where
  pub row_more : take (i + 1) segments ≡ take i segments ++ segment ∷ []
  row_more = take_more segments i segment below ∙ ap (λ x. take i segments ++ x ∷ []) (sym is)

  pub whole_row : take i segments ++ segment ∷ drop (i + 1) segments ≡ segments
  whole_row = ap (λ xs. take i segments ++ xs) (sym (drop_more segments i segment below ∙ ap (λ b. b ∷ drop (i + 1) segments) (sym is)))
      ∙ take-append-drop i segments

-- ---- what holds is answered

-- The merged list, or why there is none.
abbrev pub Answers : ℕ → List SegmentRead → Result (List Batch) MergeFault → Type 0
Answers first segments (Ok merged) = Merged first (batches_in segments) merged
Answers first segments (Err fault) = MemoryOrRefusal (IsRowRefused first segments) fault

pub why_refused : (first : ℕ) (segments : List SegmentRead) (result : Result (List Batch) MergeFault) → Answers first segments result
    → IfErr result (MemoryOrRefusal (IsRowRefused first segments))
why_refused first segments (Ok kept) a = tt
why_refused first segments (Err fault) a = a

pub only_merged : (first : ℕ) (segments : List SegmentRead) (result : Result (List Batch) MergeFault) → Answers first segments result
    → (merged : List Batch) → Merged first (batches_in segments) merged
    → MergedOrMemory result merged
only_merged first segments (Ok kept) a whole m = one_merged first (batches_in segments) kept whole a m
only_merged first segments (Err (faults.Gap i e f)) a whole m = merged_or_wrong first segments whole i e a.batch m a.wrong
only_merged first segments (Err (faults.Conflict i f)) a whole m = merged_or_wrong first segments whole i a.expected a.batch m a.wrong
only_merged first segments (Err faults.NoMemory) a whole m = tt

pub only_gap : (first : ℕ) (segments : List SegmentRead) (result : Result (List Batch) MergeFault) → Answers first segments result
    → (i e f : ℕ) → IsGap first segments i e f
    → RefusedOrMemory result (faults.Gap i e f)
only_gap first segments (Ok kept) a i e f g = merged_or_wrong first segments kept i e g.batch a g.wrong
only_gap first segments (Err (faults.Gap i' e' f')) a i e f g = one_gap first segments i' e' f' i e f a g
only_gap first segments (Err (faults.Conflict i' f')) a i e f g = absurd (gap_or_conflict first segments i e f i' f' g a)
only_gap first segments (Err faults.NoMemory) a i e f g = tt

pub only_conflict : (first : ℕ) (segments : List SegmentRead) (result : Result (List Batch) MergeFault) → Answers first segments result
    → (i f : ℕ) → IsConflict first segments i f
    → RefusedOrMemory result (faults.Conflict i f)
only_conflict first segments (Ok kept) a i f g = merged_or_wrong first segments kept i g.expected g.batch a g.wrong
only_conflict first segments (Err (faults.Gap i' e' f')) a i f g = absurd (gap_or_conflict first segments i' e' f' i f a g)
only_conflict first segments (Err (faults.Conflict i' f')) a i f g = one_conflict first segments i' f' i f a g
only_conflict first segments (Err faults.NoMemory) a i f g = tt
