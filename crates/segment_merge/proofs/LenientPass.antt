-- One pass over the row where gaps are accepted: append what begins after all, skip what is kept.
use Rattle.batch_repr.proofs.Laws.{end_append}
use Rattle.std.proofs.Common.{◌≡◌, ◌⊎◌, inl, inr, ℕ, ◌+◌, ◌≤◌, ◌<◌, List, [], ◌∷◌, ◌++◌, length, take, drop, get_or, sym, subst, ap, ◌∙◌, refl, arith, Ok, Err, append_assoc, length-append}
use Rattle.std.specs.Prelude.{Contains, ◌↔◌}
use Rattle.std.proofs.lemmas.List.{append-nil, map-append, take_more, drop_more, take-append-drop}
use Rattle.std.proofs.lemmas.List.Elements.{Contains-append_left, Contains-append_right, Contains-append_cases, Contains-push_cases}
use Rattle.batch_repr.specs.declared.batch.Batch.{Batch}
use Rattle.batch_repr.specs.Batches.{count_of, end_of, end_after}
use Rattle.segment_merge.specs.declared.segment.SegmentRead.{SegmentRead}
use Rattle.segment_merge.specs.declared.fault.MergeFault.{MergeFault}
use Rattle.segment_merge.specs.declared.fault.MergeFault.TheVariants as faults
use Rattle.segment_merge.specs.Rows.{IsNumbered, batches_in}
use Rattle.segment_merge.specs.Merging.{all_of, AscendByNumber}
use Rattle.segment_merge.specs.Lenient.{IsPast, IsNewOrKept, IsAccepted, IsRowLenientlyRefused}
use Rattle.segment_merge.specs.Returned.{MemoryOrRefusal}
use Rattle.segment_merge.specs.Keeping.{Kept, IsAscendingFrom}
use Rattle.segment_merge.specs.Steps.{IsAppendedAfter, IsSkipped, LenientSteps, KeepsLenient}
use Rattle.wal_base.proofs.Laws.{none_within, within_head, within_tail, within_cases}
use Rattle.segment_merge.proofs.Ascending.{ascending_push}
use Rattle.segment_merge.proofs.Pass.{all_with}
use Rattle.segment_merge.proofs.Places.{Places, sooner, one, later, places}

-- ---- ends of batches in order

end_rises : (from : ℕ) (batches : List Batch) → AscendByNumber from batches → from ≤ end_after from batches
unfolding AscendByNumber end_after
end_rises from [] up = omega arith
end_rises from (b ∷ batches) up = omega (arith, up.0, end_rises (end_of b) batches up.2)

ends_within : (from : ℕ) (batches : List Batch) (batch : Batch) → AscendByNumber from batches → Contains batches batch → end_of batch ≤ end_after from batches
unfolding AscendByNumber end_after
ends_within from [] batch up h = absurd (none_within batch h)
ends_within from (b ∷ batches) batch up h = elim (within_cases b batches batch h) [
  | inl e ↦ subst (λ x. end_of x ≤ end_after (end_of b) batches) e (end_rises (end_of b) batches up.2)
  | inr behind ↦ ends_within (end_of b) batches batch up.2 behind
]

two_cases : (m n : ℕ) → (m < n) ⊎ (n ≤ m)
two_cases m n = grind arith

-- a number below the last end is below the end of some batch
below_some : (from n : ℕ) (batches : List Batch) → AscendByNumber from batches → from ≤ n → n < end_after from batches → (batch : Batch)
    × Contains batches batch × (n < end_of batch)
unfolding AscendByNumber end_after
below_some from n [] up le less = absurd (omega (arith, le, less))
below_some from n (b ∷ batches) up le less = elim (two_cases n (end_of b)) [
  | inl below ↦ (b, within_head b batches, below)
  | inr past ↦ let more = below_some (end_of b) n batches up.2 past less in (more.0, within_tail b batches more.0 more.1, more.2)
]

-- ---- rows that are accepted

pub accepted_none : IsAccepted []
accepted_none [] batch after e = absurd cc
accepted_none (b ∷ before) batch after e = absurd cc

pub accepted_front : (front back : List Batch) → IsAccepted (front ++ back) → IsAccepted front
accepted_front front back a before batch after e = a before batch (after ++ back) (ap (λ xs. xs ++ back) e ∙ append_assoc before (batch ∷ after) back)

accepted_push : (all : List Batch) (batch : Batch) → IsAccepted all → IsNewOrKept all batch → IsAccepted (all ++ batch ∷ [])
accepted_push all batch a new before x after e = of (places all batch [] before x after e)
  where
    of : Places all batch [] before x after → IsNewOrKept before x
    of (sooner mid is) = absurd (omega (
      arith,
      ap length e,
      ap length is,
      length-append all (batch ∷ []),
      length-append before (x ∷ after),
      length-append all (batch ∷ mid),
    ))
    of (one p q r) = subst (λ xs. IsNewOrKept xs x) p (subst (λ b. IsNewOrKept all b) q new)
    of (later mid is) = a before x mid is

-- batches in the order of their numbers are accepted
ascending_cut : (from : ℕ) (before : List Batch) (batch : Batch) (after : List Batch) → AscendByNumber from (before ++ batch ∷ after)
    → AscendByNumber from before × (end_after from before ≤ batch.first)
unfolding AscendByNumber end_after
ascending_cut from [] batch after up = (tt, up.0)
ascending_cut from (b ∷ before) batch after up = let rest = ascending_cut (end_of b) before batch after up.2 in ((up.0, up.1, rest.0), rest.1)

ascending_accepted : (batches : List Batch) → AscendByNumber 0 batches → IsAccepted batches
ascending_accepted batches up before batch after e =
    let cut = ascending_cut 0 before batch after (subst (AscendByNumber 0) e up) in inr (λ earlier at. omega (arith, ends_within 0 before earlier cut.0 at, cut.1))

-- what is kept is what it is itself merged to
pub keeps_own : (all : List Batch) (kept : Kept) → KeepsLenient all kept → KeepsLenient kept.batches kept
keeps_own all kept k = record {
  ascending = k.ascending;
  same = λ batch. (λ h. h, λ h. h);
  accepted = ascending_accepted kept.batches k.ascending;
  next_is = k.next_is;
}

-- ---- the steps of the pass

pub keeps_none : (kept : Kept) → kept.batches ≡ [] → kept.next ≡ 0 → KeepsLenient [] kept
unfolding AscendByNumber end_after
keeps_none kept none next = record {
  ascending = subst (λ xs. AscendByNumber 0 xs) (sym none) tt;
  same = subst (λ xs. (b : Batch) → Contains xs b ↔ Contains [] b) (sym none) (λ b. (λ h. h, λ h. h));
  accepted = accepted_none;
  next_is = next ∙ sym (ap (end_after 0) none);
}

module _ (all : List Batch) (kept : Kept) (batch : Batch) (k : KeepsLenient all kept) where
  past : kept.next ≤ batch.first → IsPast all batch
  past above earlier h = omega (arith, above, k.next_is, ends_within 0 kept.batches earlier k.ascending ((k.same earlier).1 h))

  appended : (new : Kept) → 0 < count_of batch.entries → IsAppendedAfter kept new batch → KeepsLenient (all ++ batch ∷ []) new
  unfolding end_after
  appended new some a = record {
    ascending = subst (λ xs. AscendByNumber 0 xs) (sym a.new_is) (ascending_push 0 kept.batches batch k.ascending (omega (arith, a.above, k.next_is)) some);
    same = subst (λ xs. (b : Batch) → Contains xs b ↔ Contains (all ++ batch ∷ []) b) (sym a.new_is) (λ b. (
      λ h. elim (Contains-append_cases kept.batches (batch ∷ []) b h) [
        | inl old ↦ Contains-append_left all (batch ∷ []) b ((k.same b).0 old)
        | inr now ↦ Contains-append_right all (batch ∷ []) b now
      ],
      λ h. elim (Contains-append_cases all (batch ∷ []) b h) [
        | inl old ↦ Contains-append_left kept.batches (batch ∷ []) b ((k.same b).1 old)
        | inr now ↦ Contains-append_right kept.batches (batch ∷ []) b now
      ],
    ));
    accepted = accepted_push all batch k.accepted (inr (past a.above));
    next_is = a.next_is ∙ sym (ap (end_after 0) a.new_is ∙ end_append 0 kept.batches (batch ∷ []));
  }

  skipped : (new : Kept) → IsSkipped kept new batch → KeepsLenient (all ++ batch ∷ []) new
  skipped new s = record {
    ascending = subst (λ xs. AscendByNumber 0 xs) (sym s.new_is) k.ascending;
    same = subst (λ xs. (b : Batch) → Contains xs b ↔ Contains (all ++ batch ∷ []) b) (sym s.new_is) (λ b. (
      λ h. Contains-append_left all (batch ∷ []) b ((k.same b).0 h),
      λ h. elim (Contains-push_cases all batch b h) [
        | inl old ↦ (k.same b).1 old
        | inr e ↦ subst (λ x. Contains kept.batches x) e s.kept
      ],
    ));
    accepted = accepted_push all batch k.accepted (inl ((k.same batch).0 s.kept));
    next_is = s.next_is ∙ k.next_is ∙ sym (ap (end_after 0) s.new_is);
  }

  -- it begins below the end of some batch, and is none of those that are kept
  denied : batch.first < kept.next → (Contains kept.batches batch → ⊥) → IsNewOrKept all batch → ⊥
  denied below unkept (inl old) = unkept ((k.same batch).1 old)
  denied below unkept (inr above) =
      let some = below_some 0 batch.first kept.batches k.ascending (omega arith) (omega (arith, below, k.next_is)) in
      omega (arith, some.2, above some.0 ((k.same some.0).0 some.1))

-- ---- the loop through a segment

module _ (before : List SegmentRead) (segment : SegmentRead) (kept : Kept) (i : ℕ) (batch : Batch)
    (k : KeepsLenient (all_of (batches_in before) ++ take i segment.batches) kept) (below : i < length segment.batches)
    (is : batch ≡ get_or segment.batches i batch) (numbered : IsNumbered batch) where
  front_more : take (i + 1) segment.batches ≡ take i segment.batches ++ batch ∷ []
  front_more = take_more segment.batches i batch below ∙ ap (λ b. take i segment.batches ++ b ∷ []) (sym is)

  cut_here : segment.batches ≡ take i segment.batches ++ batch ∷ drop (i + 1) segment.batches
  cut_here = sym (ap (λ xs. take i segment.batches ++ xs) (sym (drop_more segment.batches i batch below
      ∙ ap (λ b. b ∷ drop (i + 1) segment.batches) (sym is))) ∙ take-append-drop i segment.batches)

  all_more : all_of (batches_in before) ++ take (i + 1) segment.batches ≡ (all_of (batches_in before) ++ take i segment.batches) ++ batch ∷ []
  all_more = ap (λ xs. all_of (batches_in before) ++ xs) front_more ∙ sym (append_assoc (all_of (batches_in before)) (take i segment.batches) (batch ∷ []))

  pub keeps_more : (new : Kept) (done : Unit {0}) → LenientSteps kept new segment.index batch (Ok done)
      → KeepsLenient (all_of (batches_in before) ++ take (i + 1) segment.batches) new
  keeps_more new done (inl a) = subst (λ xs. KeepsLenient xs new) (sym all_more)
      (appended (all_of (batches_in before) ++ take i segment.batches) kept batch k new numbered.some a)
  keeps_more new done (inr s) = subst (λ xs. KeepsLenient xs new) (sym all_more)
      (skipped (all_of (batches_in before) ++ take i segment.batches) kept batch k new s)

  pub keeps_refused : (new : Kept) (fault : MergeFault) → LenientSteps kept new segment.index batch (Err fault) → (after : List SegmentRead)
      → MemoryOrRefusal (IsRowLenientlyRefused (before ++ segment ∷ after)) fault
  keeps_refused new (faults.Gap j e f) s after = s
  keeps_refused new (faults.Conflict j f) s after = record {
    before = before;
    segment = segment;
    after = after;
    row = refl;
    index_is = s.0;
    front = take i segment.batches;
    batch = batch;
    back = drop (i + 1) segment.batches;
    cut = cut_here;
    right = k.accepted;
    wrong = denied (all_of (batches_in before) ++ take i segment.batches) kept batch k s.2 s.3;
    found_is = s.1;
  }
  keeps_refused new faults.NoMemory s after = tt

-- the whole segment
pub keeps_all : (before : List SegmentRead) (segment : SegmentRead) (kept : Kept) → KeepsLenient (all_of (batches_in before) ++ segment.batches) kept
    → KeepsLenient (all_of (batches_in (before ++ segment ∷ []))) kept
keeps_all before segment kept k =
    subst (λ xs. KeepsLenient xs kept) (sym (ap all_of (map-append (λ (s : SegmentRead). s.batches) before (segment ∷ []))
    ∙ all_with (batches_in before) segment.batches)) k

pub begun : (before : List SegmentRead) (kept : Kept) → KeepsLenient (all_of (batches_in before)) kept → KeepsLenient (all_of (batches_in before) ++ []) kept
begun before kept k = subst (λ xs. KeepsLenient xs kept) (sym (append-nil (all_of (batches_in before)))) k

-- where nothing is kept yet, a segment in which each batch begins after those before it is kept as it is
none_in : (all : List Batch) → ((batch : Batch) → Contains all batch → ⊥) → all ≡ []
none_in [] none = refl
none_in (batch ∷ all) none = absurd (none batch (within_head batch all))

pub taken_over : (before : List SegmentRead) (segment : SegmentRead) (kept : Kept) (end : ℕ)
    → KeepsLenient (all_of (batches_in before)) kept → kept.batches ≡ [] → IsAscendingFrom kept.next segment.batches end
    → KeepsLenient (all_of (batches_in (before ++ segment ∷ []))) (record { batches = segment.batches; next = end })
unfolding end_after
taken_over before segment kept end k none up =
    let begins : kept.next ≡ 0 = k.next_is ∙ ap (end_after 0) none in
    let before_none : all_of (batches_in before) ≡ [] = none_in (all_of (batches_in before))
    (λ b h. none_within b (subst (λ xs. Contains xs b) none ((k.same b).1 h))) in
    let ascending : AscendByNumber 0 segment.batches = subst (λ n. AscendByNumber n segment.batches) begins up.ascending in
    keeps_all before segment (record { batches = segment.batches; next = end })
    (subst (λ xs. KeepsLenient (xs ++ segment.batches) (record { batches = segment.batches; next = end })) (sym before_none) (record {
      ascending = ascending;
      same = λ batch. (λ h. h, λ h. h);
      accepted = ascending_accepted segment.batches ascending;
      next_is = up.end_is ∙ ap (λ n. end_after n segment.batches) begins;
    }))
