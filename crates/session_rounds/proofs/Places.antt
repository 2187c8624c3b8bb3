-- Lists behind others: what stands at a place, and what a store answers there.
use Rattle.std.proofs.Common.{◌≡◌, ℕ, zero, suc, ◌+◌, List, [], ◌∷◌, ◌++◌, length, take, drop, Some, refl, sym, ap, ◌∙◌, le_refl, arith}
use Rattle.std.specs.Prelude.{slice_get}
use mathlib.Core.Option.{some, some-ne-none, some-injective}
use lib.ListN.{get_elem?}
use Rattle.std.proofs.lemmas.List.{drop-drop, drop_at, take_all}
use Rattle.wal_base.specs.Prefixes.{IsPrefixOf}
use Rattle.wal_base.proofs.Laws.{prefix_take}
use Rattle.batch_repr.specs.declared.batch.Batch.{Batch}
use Rattle.batch_repr.specs.Batches.{IsContiguous, end_of, end_after, answer}
use Rattle.commit_queue.specs.Rule.{numbers}
use Rattle.commit_queue.specs.Shown.{end_of_first}

-- ---- places behind a front

-- what stands there, and what is taken and dropped up to there
pub get_after : {X : Type 0} (xs ys : List X) (p : ℕ) → slice_get (xs ++ ys) (length xs + p) ≡ slice_get ys p
get_after [] ys p = let same : 0 + p ≡ p = omega arith in ap (slice_get ys) same
get_after (x ∷ xs) ys p =
    let same : suc (length xs) + p ≡ suc (length xs + p) = omega arith in
    ap (slice_get (x ∷ (xs ++ ys))) same ∙ get_after xs ys p

pub take_after : {X : Type 0} (xs ys : List X) (p : ℕ) → take (length xs + p) (xs ++ ys) ≡ xs ++ take p ys
take_after {X = X} [] ys p = let same : 0 + p ≡ p = omega arith in ap (λ (n : ℕ). take n ys) same
take_after {X = X} (x ∷ xs) ys p =
    let same : suc (length xs) + p ≡ suc (length xs + p) = omega arith in
    ap (λ (n : ℕ). take n (x ∷ (xs ++ ys))) same ∙ ap (λ (rest : List X). x ∷ rest) (take_after xs ys p)

pub drop_after : {X : Type 0} (xs ys : List X) (p : ℕ) → drop (length xs + p) (xs ++ ys) ≡ drop p ys
drop_after {X = X} xs ys p =
    sym (drop-drop p (length xs) (xs ++ ys)) ∙ ap (λ (rest : List X). drop p rest) (drop_at xs ys (length xs) refl)

-- the same place, as specs of sessions and of stores read it
pub as_got : {X : Type 0} (xs : List X) (i : ℕ) (x : X) → get_elem? xs i ≡ some x → slice_get xs i ≡ Some x
as_got [] i x e = absurd (some-ne-none x (sym e))
as_got (y ∷ xs) zero x e = ap (λ z. Some z) (some-injective y x e)
as_got (y ∷ xs) (suc i) x e = as_got xs i x e

-- ---- numbers

-- Batches in a row end where they end by their counts.
pub row_end : (from : ℕ) (batches : List Batch) (n : ℕ) → IsContiguous from batches → end_after from (take n batches) ≡ end_of_first from batches n
unfolding IsContiguous end_after
row_end from batches zero row = refl
row_end from [] (suc n) row = refl
row_end from (b ∷ batches) (suc n) row = row_end (end_of b) batches n row.2 ∙ ap (λ (k : ℕ). end_of_first (k + numbers b) batches n) row.0

-- The store answers after the base and what was seen as the base with what was seen.
pub answer_seen : (base seen batches : List Batch) (key : List ℕ) → IsPrefixOf seen batches
    → answer (base ++ batches) (length base + length seen) key ≡ answer (base ++ seen) (length (base ++ seen)) key
unfolding answer
answer_seen base seen batches key pre =
    let front : take (length base + length seen) (base ++ batches) ≡ take (length (base ++ seen)) (base ++ seen) =
    take_after base batches (length seen) ∙ ap (λ (rest : List Batch). base ++ rest) (prefix_take seen batches pre)
    ∙ sym (take_all (length (base ++ seen)) (base ++ seen) (le_refl (length (base ++ seen)))) in
    rw front refl
