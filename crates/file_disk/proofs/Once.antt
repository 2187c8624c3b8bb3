-- A list to which the segments of a list in order are added one after another, each only where it is later, has each name once.
use Rattle.std.proofs.Common.{◌≡◌, inl, inr, ℕ, ◌+◌, ◌-◌, ◌<◌, List, [], ◌∷◌, ◌++◌, length, get_or, Any, Contains, refl, sym, ap, subst, ◌∙◌, arith}
use native.Mathlib.Decide.{dec_le}
use Rattle.std.proofs.lemmas.List.{get_or_default, length-append, get_or-append_right, get_or_append_left}
use Rattle.std.proofs.lemmas.List.Elements.{All-push, Contains-get_or}
use Rattle.std.proofs.lemmas.List.Quantifiers.{Any-push, all_pairs_push}
use Rattle.disk_face.specs.declared.SegName.{SegName}
use Rattle.disk_face.specs.declared.Listed.{Listed}
use Rattle.disk_face.specs.Listing.{IsBefore, IsAscending}
use Rattle.disk_face.proofs.Laws.{before_trans, before_or_after, same_number}
use Rattle.file_disk.specs.Found.{NeverDescends, IsAfterLast, AddsIfLater, AreAmong}

-- what was made of the first i segments of a list in order
pub record Once (sorted names : List Listed) (i : ℕ) : Type 0 where
  pub ascending : IsAscending names
  pub found : AreAmong sorted names
  pub each : (k : ℕ) (d : Listed) → k < i → Any (λ listed. listed.name ≡ (get_or sorted k d).name) names
  pub last : (d : Listed) → 0 < length names → (0 < i) × ((get_or names (length names - 1) d).name ≡ (get_or sorted (i - 1) d).name)

abbrev name : Listed → SegName
name item = item.name

-- names of which neither is before the other are one
one_name : (a b : SegName) → (IsBefore a b → ⊥) → (IsBefore b a → ⊥) → a ≡ b
one_name a b not_before not_after = elim (same_number a.wal b.wal) [
  | inl w ↦ elim (same_number a.index b.index) [
    | inl x ↦ λ i. record { wal = w i; index = x i }
    | inr apart ↦ elim (before_or_after a b (λ e. apart (ap (λ (n : SegName). n.index) e))) [ inl before ↦ absurd (not_before before) | inr after ↦ absurd (not_after after) ]
  ]
  | inr apart ↦ elim (before_or_after a b (λ e. apart (ap (λ (n : SegName). n.wal) e))) [ inl before ↦ absurd (not_before before) | inr after ↦ absurd (not_after after) ]
]

module _ (sorted names : List Listed) (i : ℕ) (item : Listed) (order : NeverDescends sorted) (below : i < length sorted)
    (is : (d : Listed) → get_or sorted i d ≡ item) (once : Once sorted names i) where
  -- all that was made is before a name that is after its last one
  all_before : IsAfterLast names item.name → (k : ℕ) (d : Listed) → k < length names → IsBefore (get_or names k d).name item.name
  all_before after k d lt = elim (dec_le (length names - 1) k) [
    | yes le ↦
        let e : k ≡ length names - 1 = omega (arith, le, lt) in
        subst (λ (n : ℕ). IsBefore (get_or names n d).name item.name) (sym e) (after d (omega (arith, lt)))
    | no h ↦ before_trans (get_or names k d).name (get_or names (length names - 1) d).name item.name
        (once.ascending k (length names - 1) d (omega (arith, h)) (omega (arith, lt))) (after d (omega (arith, lt)))
  ]

  at_end : (d : Listed) → get_or (names ++ item ∷ []) (length (names ++ item ∷ []) - 1) d ≡ item
  at_end d =
      let long : length (names ++ item ∷ []) ≡ length names + 1 = length-append names (item ∷ []) in
      let place : length (names ++ item ∷ []) - 1 ≡ length names = omega (arith, long) in
      let none : length names - length names ≡ 0 = omega arith in
      ap (λ (n : ℕ). get_or (names ++ item ∷ []) n d) place ∙ get_or-append_right names (item ∷ []) (length names) (length names) d refl (omega arith)
      ∙ ap (λ (n : ℕ). get_or (item ∷ []) n d) none

  this_one : (k : ℕ) (d : Listed) → k < i + 1 → (k < i → ⊥) → item.name ≡ (get_or sorted k d).name
  this_one k d lt not_below =
      let e : k ≡ i = omega (arith, lt, not_below) in
      sym (ap name (ap (λ (n : ℕ). get_or sorted n d) e ∙ is d))

  -- one more stands for its own name, and those before stand for theirs
  stays_for : (n : SegName) → Any (λ listed. listed.name ≡ n) names → Any (λ listed. listed.name ≡ n) (names ++ item ∷ [])
  stays_for n (k, x, lt, at, same) = (k, x, omega (arith, lt, length-append names (item ∷ [])), get_or_append_left names (item ∷ []) x k lt ∙ at, same)

  this_place : (d : Listed) → get_or sorted (i + 1 - 1) d ≡ item
  this_place d = let same : i + 1 - 1 ≡ i = omega arith in ap (λ (n : ℕ). get_or sorted n d) same ∙ is d

  added : IsAfterLast names item.name → Once sorted (names ++ item ∷ []) (i + 1)
  added after = record {
    ascending = all_pairs_push (λ a b. IsBefore a.name b.name) names item once.ascending (all_before after);
    found = All-push (λ x. Contains sorted x) names item once.found (subst (Contains sorted) (is item) (Contains-get_or sorted i item below));
    each = λ k d lt. elim (dec_le (k + 1) i) [
      | yes le ↦ stays_for (get_or sorted k d).name (once.each k d (omega (arith, le)))
      | no h ↦ Any-push (λ listed. listed.name ≡ (get_or sorted k d).name) names item (this_one k d lt (λ l. h (omega (arith, l))))
    ];
    last = λ d some. (omega arith, ap name (at_end d) ∙ sym (ap name (this_place d)));
  }

  -- the last one has the name, where the name is not after it
  same_name : (IsAfterLast names item.name → ⊥) → (d : Listed) → (0 < length names) × ((get_or names (length names - 1) d).name ≡ item.name)
  same_name not_after d = elim (dec_le (length names) 0) [
    | yes none ↦ absurd (not_after (λ e some. absurd (omega (arith, none, some))))
    | no h ↦
        let some : 0 < length names = omega (arith, h) in
        let (first, is_that) = once.last d some in
        let place : i - 1 + 1 ≡ i = omega (arith, first) in
        let that : Listed = get_or names (length names - 1) d in
        let forward : IsBefore that.name item.name → ⊥ = λ before. not_after (λ e _. subst (λ (x : Listed). IsBefore x.name item.name)
        (get_or_default names (length names - 1) d e (omega (arith, some))) before) in
        let this : get_or sorted (i - 1 + 1) d ≡ item = ap (λ (n : ℕ). get_or sorted n d) place ∙ is d in
        let back : IsBefore item.name that.name → ⊥ = λ before. order (i - 1) d (omega (arith, below, first))
        (subst (λ (x : Listed). IsBefore x.name (get_or sorted (i - 1) d).name) (sym this) (subst (IsBefore item.name) is_that before)) in
        (some, one_name that.name item.name forward back)
  ]

  passed : (IsAfterLast names item.name → ⊥) → Once sorted names (i + 1)
  passed not_after = record {
    ascending = once.ascending;
    found = once.found;
    each = λ k d lt. elim (dec_le (k + 1) i) [
      | yes le ↦ once.each k d (omega (arith, le))
      | no h ↦
          let (some, same) = same_name not_after item in (
            length names - 1,
            get_or names (length names - 1) item,
            omega (arith, some),
            get_or_default names (length names - 1) (get_or names (length names - 1) item) item (omega (arith, some)),
            same ∙ this_one k d lt (λ l. h (omega (arith, l))),
          )
    ];
    last = λ d some. (omega arith, (same_name not_after d).1 ∙ sym (ap name (this_place d)));
  }

  -- the next segment of a list in order is added if it is later
  pub once_more : (new : List Listed) → AddsIfLater names item new → Once sorted new (i + 1)
  once_more new (inl (after, is_new)) = subst (λ (l : List Listed). Once sorted l (i + 1)) (sym is_new) (added after)
  once_more new (inr (not_after, is_new)) = subst (λ (l : List Listed). Once sorted l (i + 1)) (sym is_new) (passed not_after)
