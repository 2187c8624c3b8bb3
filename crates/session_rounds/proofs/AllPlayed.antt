-- What is played in two parts, or turn by turn, is played as a whole.
use Rattle.std.specs.Prelude.{◌≡◌, ℕ, ◌+◌, ◌-◌, ◌<◌, ◌≤◌, false, List, [], ◌++◌, length, slice_index_or, slice_set}
use Rattle.std.proofs.Common.{inl, inr, refl, sym, ap, ◌∙◌, subst, arith, length-append, get_or-set_same, get_or-set_other}
use Rattle.std.proofs.lemmas.Bool.{cases_lt}
use Rattle.std.proofs.lemmas.List.{get_or_append_left, get_or-append_right, get_or_default}
use Rattle.commit_pipeline.specs.Openings.{Opening}
use Rattle.session_rounds.specs.declared.course.Course.{Course}
use Rattle.session_rounds.specs.Turns.{PlaysTurn, PlayAll}

-- A turn is played, unless its session ran out of memory.
abbrev pub Played : Opening → Course → Course → Type 0
Played opening t t' = t'.starved ≡ false → PlaysTurn opening t t'

-- What holds of equal turns.
of_same : (opening : Opening) (t u t' u' : Course) → t ≡ u → t' ≡ u' → Played opening u u' → Played opening t t'
of_same opening t u t' u' same same' holds =
    subst (λ (x : Course). Played opening x t') (sym same) (subst (λ (x : Course). Played opening u x) (sym same') holds)

-- There is nothing to play.
pub none_to_play : (opening : Opening) → PlayAll opening [] []
none_to_play opening = record { all = refl; each = λ i d below whole. absurd (omega (arith, below)) }

-- Where each turn of both parts is played, each of all is.
pub both_played : (opening : Opening) (ts front back front' back' : List Course) → ts ≡ front ++ back → PlayAll opening front front'
    → PlayAll opening back back' → PlayAll opening ts (front' ++ back')
both_played opening ts front back front' back' is one other = record {
  all = omega (arith, ap length is, length-append front back, length-append front' back', one.all, other.all);
  each = λ i d below. elim (cases_lt i (length front)) [
    | inl under ↦
        of_same opening (slice_index_or ts i d) (slice_index_or front i d) (slice_index_or (front' ++ back') i d) (slice_index_or front' i d)
        (ap (λ (l : List Course). slice_index_or l i d) is ∙ get_or_append_left front back d i under)
        (get_or_append_left front' back' d i (omega (arith, under, one.all))) (one.each i d under)
    | inr past ↦
        of_same opening (slice_index_or ts i d) (slice_index_or back (i - length front) d) (slice_index_or (front' ++ back') i d)
        (slice_index_or back' (i - length front) d)
        (ap (λ (l : List Course). slice_index_or l i d) is ∙ get_or-append_right front back (length front) i d refl past)
        (get_or-append_right front' back' (length front) i d one.all past)
        (other.each (i - length front) d (omega (arith, below, past, ap length is, length-append front back)))
  ];
}

-- ---- turn by turn

-- The turns before a place are played, and the others are as they were.
pub record PlayedSoFar (opening : Opening) (ts now : List Course) (k : ℕ) : Type 0 where
  pub rest : (i : ℕ) (d : Course) → k ≤ i → slice_index_or now i d ≡ slice_index_or ts i d
  pub each : (i : ℕ) (d : Course) → i < k → Played opening (slice_index_or ts i d) (slice_index_or now i d)

-- One more is.
pub one_played : (opening : Opening) (ts now : List Course) (k : ℕ) (t t' : Course) → PlayedSoFar opening ts now k → k < length now
    → Played opening (slice_index_or now k t) t' → PlayedSoFar opening ts (slice_set now k t') (k + 1)
one_played opening ts now k t t' so inside holds = record {
  rest = λ i d le. get_or-set_other now k i t' d (λ same. omega (arith, le, same)) ∙ so.rest i d (omega (arith, le));
  each = λ i d below. elim (cases_lt i k) [
    | inl under ↦
        of_same opening (slice_index_or ts i d) (slice_index_or ts i d) (slice_index_or (slice_set now k t') i d) (slice_index_or now i d) refl
        (get_or-set_other now k i t' d (λ same. omega (arith, under, same))) (so.each i d under)
    | inr past ↦
        let here : i ≡ k = omega (arith, below, past) in
        of_same opening (slice_index_or ts i d) (slice_index_or now k t) (slice_index_or (slice_set now k t') i d) t'
        (sym (so.rest i d past) ∙ ap (λ (j : ℕ). slice_index_or now j d) here ∙ get_or_default now k d t inside)
        (ap (λ (j : ℕ). slice_index_or (slice_set now k t') j d) here ∙ get_or-set_same now k t' d inside) holds
  ];
}
