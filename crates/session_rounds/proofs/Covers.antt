-- A list with each number of a range, and no more numbers than there are, is the range in another order.
use Rattle.std.specs.Prelude.{Contains}
use Rattle.std.proofs.Common.{◌≡◌, ◌⊎◌, inl, inr, ℕ, zero, suc, ◌+◌, ◌<◌, ◌≤◌, List, [], ◌∷◌, length, map, get_or, take, drop, IsPermutation, refl, sym, ap, ◌∙◌, subst, drop-cons, arith}
use Rattle.std.proofs.lemmas.List.Sorted.{IsPermutation-refl, IsPermutation-trans, IsPermutation-cons, IsPermutation-middle, length_permutation}
use Rattle.wal_base.proofs.Laws.{none_within, within_cases, within_head, within_tail}

-- ---- what is taken out of a list

-- a list but for one element of it
record TakesOut {A : Type 0} (x : A) (xs : List A) : Type 0 where
  pub rest : List A
  pub permuted : IsPermutation xs (x ∷ rest)
  pub others : (y : A) → Contains xs y → (y ≡ x) ⊎ Contains rest y

-- each element can be taken out
taken_out : {A : Type 0} (x : A) (xs : List A) → Contains xs x → TakesOut x xs
taken_out x [] h = absurd (none_within x h)
taken_out {A = A} x (y ∷ ys) h = elim (within_cases y ys x h) [
  | inl e ↦ record {
    rest = ys;
    permuted = subst (λ (z : A). IsPermutation (y ∷ ys) (z ∷ ys)) e (IsPermutation-refl (y ∷ ys));
    others = λ z m. elim (within_cases y ys z m) [ inl f ↦ inl (sym f ∙ e) | inr k ↦ inr k ];
  }
  | inr m ↦
      let t : TakesOut x ys = taken_out x ys m in
      record {
        rest = y ∷ t.rest;
        permuted =
            IsPermutation-trans (y ∷ ys) (y ∷ x ∷ t.rest) (x ∷ y ∷ t.rest) (IsPermutation-cons y ys (x ∷ t.rest) t.permuted)
            (IsPermutation-middle (y ∷ []) x t.rest);
        others = λ z k. elim (within_cases y ys z k) [
          | inl f ↦ inr (subst (λ (w : A). Contains (y ∷ t.rest) w) f (within_head y t.rest))
          | inr l ↦ elim (t.others z l) [ inl f ↦ inl f | inr r ↦ inr (within_tail y t.rest z r) ]
        ];
      }
]

-- ---- ranges

-- the n numbers from this one on
abbrev pub range : ℕ → ℕ → List ℕ
range low zero = []
range low (suc n) = low ∷ range (suc low) n

-- Each of them stands in the list.
abbrev pub Covers : ℕ → ℕ → List ℕ → Type 0
Covers low n places = (i : ℕ) → low ≤ i → i < low + n → Contains places i

-- without the first one, the list has the others
rest_covers : (n low : ℕ) (places : List ℕ) (t : TakesOut low places) → Covers low (suc n) places → Covers (suc low) n t.rest
rest_covers n low places t covers i from below = elim (t.others i (covers i (omega (arith, from)) (omega (arith, below)))) [
  | inl e ↦ absurd (omega (arith, e, from))
  | inr h ↦ h
]

first_covered : (n low : ℕ) (places : List ℕ) → Covers low (suc n) places → Contains places low
first_covered n low places covers = covers low (omega arith) (omega arith)

-- It has no fewer elements than the range.
pub covers_many : (n low : ℕ) (places : List ℕ) → Covers low n places → n ≤ length places
covers_many zero low places covers = omega arith
covers_many (suc n) low places covers =
    let t = taken_out low places (first_covered n low places covers) in
    omega (arith, covers_many n (suc low) t.rest (rest_covers n low places t covers), length_permutation places (low ∷ t.rest) t.permuted)

-- With no more, it is the range.
pub covers_once : (n low : ℕ) (places : List ℕ) → Covers low n places → length places ≡ n → IsPermutation places (range low n)
covers_once zero low [] covers few = IsPermutation-refl []
covers_once zero low (p ∷ places) covers few = absurd (omega (arith, few))
covers_once (suc n) low places covers few =
    let t = taken_out low places (first_covered n low places covers) in
    IsPermutation-trans places (low ∷ t.rest) (low ∷ range (suc low) n) t.permuted
    (IsPermutation-cons low t.rest (range (suc low) n)
    (covers_once n (suc low) t.rest (rest_covers n low places t covers)
    (omega (arith, few, length_permutation places (low ∷ t.rest) t.permuted))))

-- the elements at the places of a range
pub at_range : {X : Type 0} (xs : List X) (d : X) (n low : ℕ) → low + n ≤ length xs → map (λ (i : ℕ). get_or xs i d) (range low n) ≡ take n (drop low xs)
at_range xs d zero low within = refl
at_range {X = X} xs d (suc n) low within =
    ap (λ (rest : List X). get_or xs low d ∷ rest) (at_range xs d n (suc low) (omega (arith, within)))
    ∙ ap (λ (rest : List X). take (suc n) rest) (sym (drop-cons xs low d (omega (arith, within))))
