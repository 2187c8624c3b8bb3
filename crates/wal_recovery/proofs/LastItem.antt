-- The last item of a list: where it stands, and the numbers that come after it.
use Rattle.batch_repr.proofs.Laws.{end_append}
use Rattle.std.proofs.Common.{◌≡◌, ℕ, zero, suc, ◌-◌, ◌<◌, List, [], ◌∷◌, ◌++◌, Some, None, length, take, get_or, sym, ap, ◌∙◌, refl, arith, append_assoc}
use Rattle.std.specs.Prelude.{slice_get}
use Rattle.std.proofs.lemmas.List.{length_push, take_more}
use Rattle.batch_repr.specs.declared.batch.Batch.{Batch}
use Rattle.batch_repr.specs.Batches.{end_of, end_after}
use Rattle.wal_recovery.proofs.Tools.{some_is}

last_split : {X : Type 0} (xs : List X) (n : ℕ) (x : X) → suc n ≡ length xs → slice_get xs n ≡ Some x → (front : List X) × (xs ≡ front ++ x ∷ [])
last_split [] n x e g = absurd (let no : None ≡ Some x = g in cc)
last_split (y ∷ []) zero x e g = ([], ap (λ z. z ∷ []) (some_is y x g))
last_split (y ∷ []) (suc n) x e g = absurd (let no : None ≡ Some x = g in cc)
last_split (y ∷ z ∷ xs) zero x e g = absurd (omega (arith, e))
last_split (y ∷ z ∷ xs) (suc n) x e g = let r = last_split (z ∷ xs) n x (omega (arith, e)) g in (y ∷ r.0, ap (λ l. y ∷ l) r.1)

-- the last item ends the list
pub last_cut : {X : Type 0} (xs : List X) (x : X) → slice_get xs (length xs - 1) ≡ Some x → (front : List X) × (xs ≡ front ++ x ∷ [])
last_cut [] x g = absurd (let no : None ≡ Some x = g in cc)
last_cut (y ∷ xs) x g = last_split (y ∷ xs) (length (y ∷ xs) - 1) x (omega arith) g

-- at each place of a list stands an item
pub no_hole : {X : Type 0} (xs : List X) (n : ℕ) → n < length xs → slice_get xs n ≡ None → ⊥
no_hole [] n lt e = omega (arith, lt)
no_hole (x ∷ xs) zero lt e = let no : Some x ≡ None = e in cc
no_hole (x ∷ xs) (suc n) lt e = no_hole xs n (omega (arith, lt)) e

-- the number after the last batch
pub end_last : (from : ℕ) (batches : List Batch) (b : Batch) → slice_get batches (length batches - 1) ≡ Some b → end_of b ≡ end_after from batches
unfolding end_after
end_last from batches b g =
    let cut = last_cut batches b g in
    sym (ap (end_after from) cut.1 ∙ end_append from cut.0 (b ∷ []))

pub end_none : (from : ℕ) (batches : List Batch) → slice_get batches (length batches - 1) ≡ None → from ≡ end_after from batches
unfolding end_after
end_none from [] g = refl
end_none from (b ∷ batches) g = absurd (no_hole (b ∷ batches) (length (b ∷ batches) - 1) (omega arith) g)

-- a list with as many items as were yielded, and one more
pub taken_more : {X : Type 0} (old yielded more : List X) (x : X) → length yielded < length more → x ≡ get_or more (length yielded) x
    → (old ++ take (length yielded) more) ++ x ∷ [] ≡ old ++ take (length (yielded ++ x ∷ [])) more
taken_more old yielded more x lt is =
    append_assoc old (take (length yielded) more) (x ∷ [])
    ∙ ap (λ l. old ++ l) (ap (λ y. take (length yielded) more ++ y ∷ []) is ∙ sym (take_more more (length yielded) x lt)
    ∙ ap (λ n. take n more) (sym (length_push yielded x)))
