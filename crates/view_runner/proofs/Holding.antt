-- The holds of hold lines are holds of the view, each line's another one.
use Rattle.std.proofs.Common.{◌≡◌, inl, inr, ℕ, zero, suc, ◌+◌, List, [], ◌∷◌, ◌++◌, length, Option, Some, None, refl, ap, subst, arith}
use Rattle.std.specs.Prelude.{Contains, slice_get, slice_set}
use Rattle.wal_base.proofs.Laws.{within_head, within_tail, within_cases}
use Rattle.snapshot_view.specs.declared.view.SnapId.{SnapId}
use Rattle.snapshot_view.specs.Views.{HoldsAt, HoldStands, held_numbers}
use Rattle.view_runner.specs.Running.{AreHeld, none, refused, stands, released}

-- ---- one hold line more

pub one_more : (n m at : ℕ) (ids : List (Option SnapId)) (held numbers : List (Option ℕ)) → AreHeld n ids held numbers → m ≡ n + length held
    → AreHeld n (ids ++ Some (record { number = m }) ∷ []) (held ++ Some at ∷ []) (numbers ++ Some at ∷ [])
one_more _ m at _ _ _ (none n) e =
    let same : n ≡ m = omega (arith, e) in
    subst (λ (k : ℕ). AreHeld n (Some (record { number = k }) ∷ []) (Some at ∷ []) (Some at ∷ [])) same (stands n at [] [] [] (none (suc n)))
one_more _ m at _ _ _ (refused n ids held numbers rest) e = refused n _ _ _ (one_more n m at ids held numbers rest e)
one_more _ m at _ _ _ (stands n other ids held numbers rest) e =
    stands n other _ _ _ (one_more (suc n) m at ids held numbers rest (omega (arith, e)))
one_more _ m at _ _ _ (released n ids held numbers rest) e = released n _ _ _ (one_more (suc n) m at ids held numbers rest (omega (arith, e)))

pub none_more : (n : ℕ) (ids : List (Option SnapId)) (held numbers : List (Option ℕ)) → AreHeld n ids held numbers
    → AreHeld n (ids ++ None ∷ []) held (numbers ++ None ∷ [])
none_more _ _ _ _ (none n) = refused n [] [] [] (none n)
none_more _ _ _ _ (refused n ids held numbers rest) = refused n _ _ _ (none_more n ids held numbers rest)
none_more _ _ _ _ (stands n at ids held numbers rest) = stands n at _ _ _ (none_more (suc n) ids held numbers rest)
none_more _ _ _ _ (released n ids held numbers rest) = released n _ _ _ (none_more (suc n) ids held numbers rest)

-- ---- the hold of a line

record IsHoldOf (n : ℕ) (ids : List (Option SnapId)) (held numbers : List (Option ℕ)) (i : ℕ) (id : SnapId) : Type 0 where
  place : ℕ
  at : ℕ
  id_is : n + place ≡ id.number
  in_view : HoldsAt held place at
  in_lines : HoldsAt numbers i at
  let_go : AreHeld n (slice_set ids i None) (slice_set held place None) (slice_set numbers i None)

found : (n : ℕ) (ids : List (Option SnapId)) (held numbers : List (Option ℕ)) → AreHeld n ids held numbers → (i : ℕ) (id : SnapId)
    → slice_get ids i ≡ Some (Some id) → IsHoldOf n ids held numbers i id
found _ _ _ _ (none n) i id e = absurd cc
found _ _ _ _ (refused n ids held numbers rest) zero id e = absurd cc
found _ _ _ _ (refused n ids held numbers rest) (suc i) id e =
    let it = found n ids held numbers rest i id e in
    record {
      place = it.place;
      at = it.at;
      id_is = it.id_is;
      in_view = it.in_view;
      in_lines = it.in_lines;
      let_go = refused n _ _ _ it.let_go;
    }
found _ _ _ _ (stands n at ids held numbers rest) zero id e =
    let same : record { number = n } ≡ id = cc in
    let number : n ≡ id.number = ap (λ (it : SnapId). it.number) same in
    record {
      place = 0;
      at = at;
      id_is = omega (arith, number);
      in_view = refl;
      in_lines = refl;
      let_go = released n ids held numbers rest;
    }
found _ _ _ _ (stands n at ids held numbers rest) (suc i) id e =
    let it = found (suc n) ids held numbers rest i id e in
    record {
      place = suc it.place;
      at = it.at;
      id_is = omega (arith, it.id_is);
      in_view = it.in_view;
      in_lines = it.in_lines;
      let_go = stands n at _ _ _ it.let_go;
    }
found _ _ _ _ (released n ids held numbers rest) zero id e = absurd cc
found _ _ _ _ (released n ids held numbers rest) (suc i) id e =
    let it = found (suc n) ids held numbers rest i id e in
    record {
      place = suc it.place;
      at = it.at;
      id_is = omega (arith, it.id_is);
      in_view = it.in_view;
      in_lines = it.in_lines;
      let_go = released n _ _ _ it.let_go;
    }

module _ (ids : List (Option SnapId)) (held numbers : List (Option ℕ)) (are : AreHeld 0 ids held numbers) (i : ℕ) (id : SnapId)
    (here : slice_get ids i ≡ Some (Some id)) where
  it : IsHoldOf 0 ids held numbers i id
  it = found 0 ids held numbers are i id here

  same_place : it.place ≡ id.number
  same_place = let is = it.id_is in omega (arith, is)

  -- it stands in the view, at the number of the line
  pub stands_at : (at : ℕ) × HoldsAt held id.number at × HoldsAt numbers i at
  stands_at = (it.at, subst (λ (p : ℕ). HoldsAt held p it.at) same_place it.in_view, it.in_lines)

  -- both are let go
  pub let_go_both : AreHeld 0 (slice_set ids i None) (slice_set held id.number None) (slice_set numbers i None)
  let_go_both = subst (λ (p : ℕ). AreHeld 0 (slice_set ids i None) (slice_set held p None) (slice_set numbers i None)) same_place it.let_go

-- a line without a hold stands at no number
pub none_stands : (n : ℕ) (ids : List (Option SnapId)) (held numbers : List (Option ℕ)) → AreHeld n ids held numbers → (i : ℕ)
    → ((id : SnapId) → slice_get ids i ≡ Some (Some id) → ⊥) → HoldStands numbers i → ⊥
none_stands _ _ _ _ (none n) i lost (at, e) = absurd cc
none_stands _ _ _ _ (refused n ids held numbers rest) zero lost (at, e) = absurd cc
none_stands _ _ _ _ (refused n ids held numbers rest) (suc i) lost h = none_stands n ids held numbers rest i lost h
none_stands _ _ _ _ (stands n at ids held numbers rest) zero lost h = lost (record { number = n }) refl
none_stands _ _ _ _ (stands n at ids held numbers rest) (suc i) lost h = none_stands (suc n) ids held numbers rest i lost h
none_stands _ _ _ _ (released n ids held numbers rest) zero lost (at, e) = absurd cc
none_stands _ _ _ _ (released n ids held numbers rest) (suc i) lost h = none_stands (suc n) ids held numbers rest i lost h

-- ---- all of them

pub same_count : (n : ℕ) (ids : List (Option SnapId)) (held numbers : List (Option ℕ)) → AreHeld n ids held numbers → length ids ≡ length numbers
same_count _ _ _ _ (none n) = refl
same_count _ _ _ _ (refused n ids held numbers rest) = ap suc (same_count n ids held numbers rest)
same_count _ _ _ _ (stands n at ids held numbers rest) = ap suc (same_count (suc n) ids held numbers rest)
same_count _ _ _ _ (released n ids held numbers rest) = ap suc (same_count (suc n) ids held numbers rest)

pub same_numbers : (n : ℕ) (ids : List (Option SnapId)) (held numbers : List (Option ℕ)) → AreHeld n ids held numbers
    → held_numbers held ≡ held_numbers numbers
same_numbers _ _ _ _ (none n) = refl
same_numbers _ _ _ _ (refused n ids held numbers rest) = same_numbers n ids held numbers rest
same_numbers _ _ _ _ (stands n at ids held numbers rest) = ap (λ (l : List ℕ). at ∷ l) (same_numbers (suc n) ids held numbers rest)
same_numbers _ _ _ _ (released n ids held numbers rest) = same_numbers (suc n) ids held numbers rest

pub in_lines : (n : ℕ) (ids : List (Option SnapId)) (held numbers : List (Option ℕ)) → AreHeld n ids held numbers → (at : ℕ)
    → Contains held (Some at) → Contains numbers (Some at)
in_lines _ _ _ _ (none n) at h = h
in_lines _ _ _ _ (refused n ids held numbers rest) at h = within_tail _ _ _ (in_lines n ids held numbers rest at h)
in_lines _ _ _ _ (stands n other ids held numbers rest) at h =
    elim (within_cases (Some other) held (Some at) h) [
      | inl is ↦ subst (λ (x : Option ℕ). Contains (Some other ∷ numbers) x) is (within_head (Some other) numbers)
      | inr later ↦ within_tail _ _ _ (in_lines (suc n) ids held numbers rest at later)
    ]
in_lines _ _ _ _ (released n ids held numbers rest) at h =
    elim (within_cases None held (Some at) h) [
      | inl is ↦ absurd cc
      | inr later ↦ within_tail _ _ _ (in_lines (suc n) ids held numbers rest at later)
    ]

pub in_view : (n : ℕ) (ids : List (Option SnapId)) (held numbers : List (Option ℕ)) → AreHeld n ids held numbers → (at : ℕ)
    → Contains numbers (Some at) → Contains held (Some at)
in_view _ _ _ _ (none n) at h = h
in_view _ _ _ _ (refused n ids held numbers rest) at h =
    elim (within_cases None numbers (Some at) h) [
      | inl is ↦ absurd cc
      | inr later ↦ in_view n ids held numbers rest at later
    ]
in_view _ _ _ _ (stands n other ids held numbers rest) at h =
    elim (within_cases (Some other) numbers (Some at) h) [
      | inl is ↦ subst (λ (x : Option ℕ). Contains (Some other ∷ held) x) is (within_head (Some other) held)
      | inr later ↦ within_tail _ _ _ (in_view (suc n) ids held numbers rest at later)
    ]
in_view _ _ _ _ (released n ids held numbers rest) at h =
    elim (within_cases None numbers (Some at) h) [
      | inl is ↦ absurd cc
      | inr later ↦ within_tail _ _ _ (in_view (suc n) ids held numbers rest at later)
    ]
