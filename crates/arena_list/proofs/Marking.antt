-- A mark between two numbers is looked for at one place.
use Rattle.std.proofs.Common.{◌≡◌, ◌⊎◌, inl, inr, ℕ, ◌+◌, ◌<◌, ◌≤◌, Bool, true, false, leb, List, Option, Some, None, length, sym, ◌∙◌, subst, arith, get_or, slice_index}
use Rattle.std.specs.List.Sorted.{IsNonDecreasing, IsPartitionPoint}
use Rattle.std.proofs.lemmas.Bool.{cases_lt, le-leb, leb-true}
use Rattle.std.proofs.lemmas.List.{get_or_default}
use Rattle.std.specs.List.{remove}
use Rattle.std.proofs.lemmas.List.Edits.{length-remove, get_or-remove_below, get_or-remove_above}
use Rattle.std.proofs.lemmas.List.Elements.{Contains-get_or}
use Rattle.arena_list.specs.Keeping.{IsMarkUpTo, IsBetween}

not_both : (b : Bool) → b ≡ true → b ≡ false → ⊥
not_both true e f = absurd cc
not_both false e f = absurd cc

up_to_less : (most : Option ℕ) (low high : ℕ) → low ≤ high → IsMarkUpTo most high → IsMarkUpTo most low
up_to_less None low high less up = tt
up_to_less (Some most) low high less up = omega (arith, less, up)

module _ (marks : List ℕ) (number place : ℕ) (within : place ≤ length marks) (ascends : IsNonDecreasing marks)
    (point : IsPartitionPoint (λ y. leb y number ≡ true) (λ y. leb y number ≡ false) marks place) where
  above : (k : ℕ) → place ≤ k → k < length marks → number < get_or marks k 0
  above k from less = elim (cases_lt number (get_or marks k 0)) [
    | inl more ↦ more
    | inr not ↦ absurd (not_both (leb (get_or marks k 0) number) (le-leb (get_or marks k 0) number (omega (arith, not))) (point.1 k 0 from less))
  ]

  below : (k : ℕ) → k < place → get_or marks k 0 ≤ number
  below k less = leb-true (get_or marks k 0) number (point.0 k 0 (omega arith) less)

  found : (most : Option ℕ) → IsBetween marks number most → (place < length marks) × IsMarkUpTo most (get_or marks place 0)
  found most (mark, (k, less, is), more, up) =
      let at : get_or marks k 0 ≡ mark = get_or_default marks k 0 mark less ∙ is in
      elim (cases_lt k place) [
        | inl early ↦ absurd (omega (arith, below k early, at, more))
        | inr late ↦
            let here : place < length marks = omega (arith, late, less) in (
              here,
              up_to_less most (get_or marks place 0) mark
                  (subst (λ (m : ℕ). get_or marks place 0 ≤ m) at (ascends place k 0 (omega (arith, late)) less)) up,
            )
      ]

  pub none_between : (most : Option ℕ) → length marks ≤ place → IsBetween marks number most → ⊥
  none_between most past between = omega (arith, past, (found most between).0)

  pub one_between : (most : Option ℕ) → place < length marks → IsMarkUpTo most (slice_index marks place) → IsBetween marks number most
  one_between most less up = (get_or marks place 0, Contains-get_or marks place 0 less, above place (omega arith) less, up)

  pub between_here : (most : Option ℕ) → IsBetween marks number most → IsMarkUpTo most (slice_index marks place)
  between_here most between = (found most between).1

-- what is left of numbers that ascend
pub removed_ascends : (xs : List ℕ) (i : ℕ) → i < length xs → IsNonDecreasing xs → IsNonDecreasing (remove xs i)
removed_ascends xs i less was j k d up within = go (cases_lt j i) (cases_lt k i)
  where
    go : (j < i) ⊎ (i ≤ j) → (k < i) ⊎ (i ≤ k) → get_or (remove xs i) j d ≤ get_or (remove xs i) k d
    go (inl a) (inl b) =
        subst (λ (m : ℕ). m ≤ get_or (remove xs i) k d) (sym (get_or-remove_below xs i d j a less))
        (subst (λ (m : ℕ). get_or xs j d ≤ m) (sym (get_or-remove_below xs i d k b less)) (was j k d up (omega (arith, b, less))))
    go (inl a) (inr b) =
        subst (λ (m : ℕ). m ≤ get_or (remove xs i) k d) (sym (get_or-remove_below xs i d j a less))
        (subst (λ (m : ℕ). get_or xs j d ≤ m) (sym (get_or-remove_above xs i d k b less))
        (was j (k + 1) d (omega (arith, up)) (omega (arith, within, length-remove xs i less))))
    go (inr a) (inl b) = absurd (omega (arith, a, b, up))
    go (inr a) (inr b) =
        subst (λ (m : ℕ). m ≤ get_or (remove xs i) k d) (sym (get_or-remove_above xs i d j a less))
        (subst (λ (m : ℕ). get_or xs (j + 1) d ≤ m) (sym (get_or-remove_above xs i d k b less))
        (was (j + 1) (k + 1) d (omega (arith, up)) (omega (arith, within, length-remove xs i less))))
