-- Lists of nodes that are all filled.
use Rattle.std.proofs.Common.{◌≡◌, ℕ, zero, suc, ◌+◌, ◌-◌, ◌≤◌, min, List, [], ◌∷◌, ◌++◌, length, drop, Option, Some, None, slice_get, refl, ap, sym, ◌∙◌, subst, lt_of_not-le, append_assoc, arith}
use Rattle.std.proofs.lemmas.List.{length-append, length-drop, drop-append-le}
use Rattle.std.proofs.Math.ListN.{drop_of_length-le}
use Rattle.std.proofs.Math.Seq.{drop-append-add}
use mathlib.Core.Logic.{dite}
use native.Mathlib.Decide.{dec_le}
use Rattle.batch_repr.specs.declared.batch.Batch.{Batch}
use Rattle.record_queue.specs.declared.node.Filled.{Filled}
use Rattle.record_queue.specs.Nodes.{in_first, linked_in, AreFilled}

-- Of the nodes at most all are filled.
pub few : (xs : List (Option Filled)) → length (linked_in xs) ≤ length xs
few [] = omega arith
few (None ∷ xs) = let h = few xs in omega arith
few (Some f ∷ xs) = let h = few xs in omega arith

-- None of them is empty.
pub no_none : (xs : List (Option Filled)) → AreFilled (None ∷ xs) → ⊥
no_none xs full = let h = few xs in absurd (omega arith)

pub full_rest : (x : Option Filled) (xs : List (Option Filled)) → AreFilled (x ∷ xs) → AreFilled xs
full_rest None xs full = absurd (no_none xs full)
full_rest (Some f) xs full = (let e : suc (length (linked_in xs)) ≡ suc (length xs) = full in omega arith)

-- a list of one node, which is filled
pub alone : (ys : List (Option Filled)) (f : Filled) → length ys ≡ 1 → in_first ys ≡ Some f → ys ≡ Some f ∷ []
alone [] f n e = absurd (omega (arith, n))
alone (y ∷ []) f n e = ap (λ x. x ∷ []) e
alone (y ∷ z ∷ ys) f n e = absurd (omega (arith, n))

-- A filled node at the end brings its record at the end.
pub linked : (xs : List (Option Filled)) (f : Filled) → linked_in (xs ++ Some f ∷ []) ≡ linked_in xs ++ f.rec ∷ []
linked [] f = refl
linked (None ∷ xs) f = linked xs f
linked (Some a ∷ xs) f = ap (λ l. a.rec ∷ l) (linked xs f)

pub full_more : (xs : List (Option Filled)) (f : Filled) → AreFilled xs → AreFilled (xs ++ Some f ∷ [])
full_more xs f e = let a : length (linked_in (xs ++ Some f ∷ [])) ≡ length (linked_in xs ++ f.rec ∷ []) = ap length (linked xs f) in let b = length-append (linked_in xs) (f.rec ∷ []) in let c = length-append xs (Some f ∷ []) in omega (arith, e)

-- the nodes after the first n hold the records after the first n
pub linked_drop : (n : ℕ) (xs : List (Option Filled)) → AreFilled xs → (linked_in (drop n xs) ≡ drop n (linked_in xs)) × AreFilled (drop n xs)
linked_drop zero xs full = (refl, full)
linked_drop (suc n) [] full = (refl, refl)
linked_drop (suc n) (None ∷ xs) full = absurd (no_none xs full)
linked_drop (suc n) (Some f ∷ xs) full = linked_drop n xs (full_rest (Some f) xs full)

-- what stands first after the first n
pub first_of_rest : (n : ℕ) (xs : List (Option Filled)) (f : Filled) (ys : List (Option Filled)) → AreFilled xs → drop n xs ≡ Some f ∷ ys → slice_get (linked_in xs) n ≡ Some f.rec
first_of_rest n [] f ys full e = absurd (nothing n e)
  where
    nothing : (n : ℕ) → drop {A = Option Filled} n [] ≡ Some f ∷ ys → ⊥
    nothing zero e = absurd (let l : 0 ≡ suc (length ys) = ap length e in omega (arith, l))
    nothing (suc n) e = absurd (let l : 0 ≡ suc (length ys) = ap length e in omega (arith, l))
first_of_rest zero (None ∷ xs) f ys full e = absurd (no_none xs full)
first_of_rest zero (Some g ∷ xs) f ys full e = let same : g ≡ f = (let s : Some g ∷ xs ≡ Some f ∷ ys = e in cc s) in ap (λ (h : Filled). Some h.rec) same
first_of_rest (suc n) (None ∷ xs) f ys full e = absurd (no_none xs full)
first_of_rest (suc n) (Some g ∷ xs) f ys full e = first_of_rest n xs f ys (full_rest (Some g) xs full) e

-- n dropped of one list after another
pub drop_both : {A : Type 0} (n : ℕ) (xs ys : List A) → drop (min n (length xs)) xs ++ drop (n - length xs) ys ≡ drop n (xs ++ ys)
drop_both {A = A} n xs ys = dite (dec_le n (length xs))
    (λ le. let m : min n (length xs) ≡ n = omega arith in let z : n - length xs ≡ 0 = omega arith in (λ k. drop (m k) xs ++ drop (z k) ys) ∙ sym (drop-append-le n xs ys le))
    (λ no. let lt = lt_of_not-le no in let m : min n (length xs) ≡ length xs = omega arith in let e : length xs + (n - length xs) ≡ n = omega arith in
    ap (λ (l : List A). l ++ drop (n - length xs) ys) (ap (λ (k : ℕ). drop k xs) m ∙ drop_of_length-le xs (omega arith)) ∙ sym (drop-append-add xs ys (n - length xs)) ∙ ap (λ (k : ℕ). drop k (xs ++ ys)) e)

-- none is left after the last
pub past_end : {A : Type 0} (n : ℕ) (xs : List A) → drop n xs ≡ [] → length xs ≤ n
past_end n xs e = let a = length-drop n xs in let b : length (drop n xs) ≡ 0 = ap length e in omega arith

-- what is left after one more
pub drop_step : {A : Type 0} (n : ℕ) (xs : List A) (x : A) (ys : List A) → drop n xs ≡ x ∷ ys → drop (suc n) xs ≡ ys
drop_step zero [] x ys e = absurd (let l : 0 ≡ suc (length ys) = ap length e in omega (arith, l))
drop_step zero (z ∷ xs) x ys e = cc e
drop_step (suc n) [] x ys e = absurd (let l : 0 ≡ suc (length ys) = ap length e in omega (arith, l))
drop_step (suc n) (z ∷ xs) x ys e = drop_step n xs x ys e

-- a node after the first n is filled
pub filled_at : (n : ℕ) (xs : List (Option Filled)) (ys : List (Option Filled)) → AreFilled xs → drop n xs ≡ None ∷ ys → ⊥
filled_at n xs ys full e = no_none ys (subst AreFilled e (linked_drop n xs full).1)
