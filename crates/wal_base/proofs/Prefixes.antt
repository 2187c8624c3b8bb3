-- What a list begins with: each fact follows from the rest, which stands behind it.
use Rattle.std.proofs.Common.{◌≡◌, ℕ, zero, suc, ◌≤◌, List, [], ◌∷◌, ◌++◌, length, take, sym, refl, ap, ◌∙◌, subst, arith, append_assoc}
use Rattle.std.proofs.lemmas.List.{append-nil, length-append, take_all, take_at}
use mathlib.Core.Option.{some, some-ne-none}
use lib.ListN.{get_elem?}
use Rattle.wal_base.specs.Prefixes.{IsPrefixOf}

pub prefix_same : {A : Type 0} (xs : List A) → IsPrefixOf xs xs
prefix_same xs = ([], sym (append-nil xs))

pub prefix_then : {A : Type 0} (xs ys zs : List A) → IsPrefixOf xs ys → IsPrefixOf ys zs → IsPrefixOf xs zs
prefix_then {A} xs ys zs one two = (
  one.0 ++ two.0,
  two.1 ∙ ap (λ (l : List A). l ++ two.0) one.1 ∙ append_assoc xs one.0 two.0,
)

pub longer_prefix : {A : Type 0} (xs ys : List A) → IsPrefixOf xs ys → length xs ≤ length ys
longer_prefix xs ys pre = omega (arith, ap length pre.1, length-append xs pre.0)

-- a prefix is what is taken of the whole
pub prefix_take : {A : Type 0} (xs ys : List A) → IsPrefixOf xs ys → take (length xs) ys ≡ xs
prefix_take xs ys pre = ap (take (length xs)) pre.1 ∙ take_at xs pre.0 (length xs) refl

-- and a prefix that is no shorter is the whole
pub prefix_whole : {A : Type 0} (xs ys : List A) → IsPrefixOf xs ys → length ys ≤ length xs → xs ≡ ys
prefix_whole xs ys pre long = sym (prefix_take xs ys pre) ∙ take_all (length xs) ys long

-- what stands at a place of the front stands there with more behind it
pub at_front : {A : Type 0} (xs rest : List A) (k : ℕ) (x : A) → get_elem? xs k ≡ some x → get_elem? (xs ++ rest) k ≡ some x
at_front [] rest k x at = absurd (some-ne-none x (sym at))
at_front (y ∷ xs) rest zero x at = at
at_front (y ∷ xs) rest (suc k) x at = at_front xs rest k x at

pub at_prefix : {A : Type 0} (xs ys : List A) → IsPrefixOf xs ys → (k : ℕ) (x : A) → get_elem? xs k ≡ some x → get_elem? ys k ≡ some x
at_prefix {A} xs ys pre k x at = ap (λ (l : List A). get_elem? l k) pre.1 ∙ at_front xs pre.0 k x at

-- what is taken of the front is a prefix of what is taken of the whole, if that is no less
taken_front : {A : Type 0} (xs rest : List A) (n m : ℕ) → n ≤ m → IsPrefixOf (take n xs) (take m (xs ++ rest))
taken_front xs rest zero m le = (take m (xs ++ rest), refl)
taken_front [] rest (suc n) m le = (take m rest, refl)
taken_front (x ∷ xs) rest (suc n) zero le = absurd (omega (arith, le))
taken_front {A} (x ∷ xs) rest (suc n) (suc m) le =
    let t = taken_front xs rest n m (omega (arith, le)) in (t.0, ap (λ (l : List A). x ∷ l) t.1)

pub prefix_taken : {A : Type 0} (xs ys : List A) (n m : ℕ) → IsPrefixOf xs ys → n ≤ m → IsPrefixOf (take n xs) (take m ys)
prefix_taken {A} xs ys n m pre le = subst (λ (l : List A). IsPrefixOf (take n xs) (take m l)) (sym pre.1) (taken_front xs pre.0 n m le)
