-- Rows of batches and of what is written for them: one more at the end, and the rest from a place on.
use Rattle.std.proofs.Common.{◌≡◌, ℕ, zero, suc, ◌+◌, List, [], ◌∷◌, ◌++◌, length, map, drop, refl, ap, subst, ◌∙◌, arith}
use Rattle.batch_repr.specs.declared.batch.Batch.{Batch}
use Rattle.batch_repr.specs.Batches.{IsContiguous, end_after}
use Rattle.text_lines.specs.Store.{Held}
use Rattle.table_text.specs.Tables.{set_batch, set_batches}

-- one key more has the next number
pub sets_push : (number : ℕ) (live : List Held) (held : Held)
    → set_batches number (live ++ held ∷ []) ≡ set_batches number live ++ set_batch (number + length live) held ∷ []
unfolding set_batches
sets_push number [] held = ap (λ (n : ℕ). set_batch n held ∷ []) (omega arith)
sets_push number (first ∷ live) held =
    let place : suc number + length live ≡ number + length (first ∷ live) = omega arith in
    ap (λ (bs : List Batch). set_batch number first ∷ bs) (sets_push (suc number) live held ∙ ap (λ (n : ℕ). set_batches (suc number) live ++ set_batch n held ∷ []) place)

-- the keys from a place on are numbered on from there
pub sets_drop : (number at : ℕ) (live : List Held) → drop at (set_batches number live) ≡ set_batches (number + at) (drop at live)
unfolding set_batches
sets_drop number zero live = ap (λ (n : ℕ). set_batches n live) (omega arith)
sets_drop number (suc at) [] = refl
sets_drop number (suc at) (held ∷ live) =
    let place : suc number + at ≡ number + suc at = omega arith in
    sets_drop (suc number) at live ∙ ap (λ (n : ℕ). set_batches n (drop at live)) place

pub drop-map : {A B : Type 0} (f : A → B) (at : ℕ) (xs : List A) → drop at (map f xs) ≡ map f (drop at xs)
drop-map f zero xs = refl
drop-map f (suc at) [] = refl
drop-map f (suc at) (x ∷ xs) = drop-map f at xs

-- What comes of a list with one more at its end is the same of such a list.
pub record EndsAs {A B : Type 0} (f : A → B) (xs : List A) (ys : List B) (y : B) : Type 0 where
  pub front : List A
  pub last : A
  pub is : xs ≡ front ++ last ∷ []
  pub front_is : map f front ≡ ys
  pub last_is : f last ≡ y

pub ends_as : {A B : Type 0} (f : A → B) (xs : List A) (ys : List B) (y : B) → map f xs ≡ ys ++ y ∷ [] → EndsAs f xs ys y
ends_as f [] [] y is = absurd cc
ends_as f [] (z ∷ ys) y is = absurd cc
ends_as f (x ∷ []) [] y is = record { front = []; last = x; is = refl; front_is = refl; last_is = cc }
ends_as f (x ∷ w ∷ xs) [] y is = absurd cc
ends_as f (x ∷ xs) (z ∷ ys) y is =
    let first : f x ≡ z = cc in
    let rest : map f xs ≡ ys ++ y ∷ [] = cc in
    let more = ends_as f xs ys y rest in
    record {
      front = x ∷ more.front;
      last = more.last;
      is = ap (λ l. x ∷ l) more.is;
      front_is = (λ i. first i ∷ more.front_is i);
      last_is = more.last_is;
    }

-- Batches of one key each are contiguous, and end as many numbers above the first as there are keys.
pub sets_contiguous : (number : ℕ) (live : List Held) → IsContiguous number (set_batches number live)
unfolding IsContiguous set_batches
sets_contiguous number [] = tt
sets_contiguous number (held ∷ live) =
    let on : suc number ≡ number + 1 = omega arith in
    (refl, omega arith, subst (λ (n : ℕ). IsContiguous n (set_batches (suc number) live)) on (sets_contiguous (suc number) live))

pub sets_end : (number : ℕ) (live : List Held) → end_after number (set_batches number live) ≡ number + length live
unfolding end_after set_batches
sets_end number [] = omega arith
sets_end number (held ∷ live) =
    let on : number + 1 ≡ suc number = omega arith in
    ap (λ (n : ℕ). end_after n (set_batches (suc number) live)) on ∙ omega (arith, sets_end (suc number) live)
