-- What holds of each element of a list, by its parts, and a list split at a place.
use Rattle.std.proofs.Common.{◌≡◌, ℕ, zero, suc, ◌-◌, List, [], ◌∷◌, ◌++◌, length, take, drop, Some, ap, ◌∙◌, arith}
use Rattle.std.specs.Prelude.{slice_get}
use Rattle.std.specs.List.{AllByRecursion}
use Rattle.std.proofs.lemmas.List.{drop_all}
use Rattle.std.proofs.lemmas.Option.{slice_get_within}

pub all_then : {X : Type 0} (P Q : X → Type 0) → ((x : X) → P x → Q x) → (xs : List X) → AllByRecursion P xs → AllByRecursion Q xs
all_then P Q h [] all = tt
all_then P Q h (x ∷ xs) all = (h x all.0, all_then P Q h xs all.1)

pub all_append : {X : Type 0} (P : X → Type 0) (front back : List X) → AllByRecursion P front → AllByRecursion P back → AllByRecursion P (front ++ back)
all_append P [] back f b = b
all_append P (x ∷ front) back f b = (f.0, all_append P front back f.1 b)

pub all_front : {X : Type 0} (P : X → Type 0) (front back : List X) → AllByRecursion P (front ++ back) → AllByRecursion P front
all_front P [] back all = tt
all_front P (x ∷ front) back all = (all.0, all_front P front back all.1)

pub all_back : {X : Type 0} (P : X → Type 0) (front back : List X) → AllByRecursion P (front ++ back) → AllByRecursion P back
all_back P [] back all = all
all_back P (x ∷ front) back all = all_back P front back all.1

-- A list has its element at a place between what is before it and what is after it.
pub split_at : {X : Type 0} (xs : List X) (index : ℕ) (x : X) → slice_get xs index ≡ Some x → xs ≡ take index xs ++ x ∷ drop (suc index) xs
split_at [] index x is = cc
split_at (y ∷ xs) zero x is = let same : y ≡ x = cc in ap (λ z. z ∷ xs) same
split_at (y ∷ xs) (suc index) x is = ap (λ zs. y ∷ zs) (split_at xs index x is)

pub last_split : {X : Type 0} (xs : List X) (x : X) → slice_get xs (length xs - 1) ≡ Some x → xs ≡ take (length xs - 1) xs ++ x ∷ []
last_split xs x is =
    let within = slice_get_within xs (length xs - 1) x is in
    split_at xs (length xs - 1) x is ∙ ap (λ rest. take (length xs - 1) xs ++ x ∷ rest) (drop_all (suc (length xs - 1)) xs (omega arith))
