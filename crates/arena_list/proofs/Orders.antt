-- The order of keys and numbers is total.
use Rattle.std.proofs.Common.{◌≡◌, ◌⊎◌, inl, inr, ℕ, ◌<◌, List, None, Ordering, Less, Equal, Greater, nat_cmp, is_eq, refl, sym, ap, ◌∙◌, arith}
use Rattle.std.specs.Ordering.{ordering_then, ordering_reverse}
use Rattle.std.specs.Cmp.{IsTotalOrder}
use Rattle.std.specs.Cmp.Lexicographic.{slice_cmp}
use Rattle.std.proofs.lemmas.Cmp.{ranked, tied_itself, nat_cmp_total, nat_list_cmp_total, on_total, then_total, back_total}
use Rattle.std.proofs.lemmas.Map.Text.{is_eq-slice_cmp}
use Rattle.std.proofs.lemmas.Slice.Eq.{bytes_eq-Decides}
use Rattle.arena_list.specs.Versions.{KeyVersion, version_with, spot_order, GoesBefore, Precedes}

abbrev pub version_order : KeyVersion → KeyVersion → Ordering
version_order one other = spot_order one.key one.number other.key other.number

pub versions_total : IsTotalOrder version_order
versions_total =
    then_total (on_total (λ (v : KeyVersion). v.key) nat_list_cmp_total) (back_total (on_total (λ (v : KeyVersion). v.number) nat_cmp_total))

pub before_along : (one other : KeyVersion) (key : List ℕ) (number : ℕ) → Precedes one other → GoesBefore other key number → GoesBefore one key number
before_along one other key number p b = IsTotalOrder.trans versions_total one other (version_with key number None) p b

pub never_before_itself : (version : KeyVersion) → GoesBefore version version.key version.number → ⊥
never_before_itself version b = let tied = tied_itself versions_total version in absurd cc

-- equal keys
pub keys_equal : (xs ys : List ℕ) → slice_cmp nat_cmp xs ys ≡ Equal → xs ≡ ys
keys_equal xs ys e = (bytes_eq-Decides xs ys).0 (sym (is_eq-slice_cmp xs ys) ∙ ap is_eq e)

numbers_equal : (m n : ℕ) → nat_cmp m n ≡ Equal → n ≡ m
numbers_equal m n e = go (nat_cmp m n) refl e
  where
    go : (o : Ordering) → o ≡ nat_cmp m n → o ≡ Equal → n ≡ m
    go Less is e = absurd cc
    go Equal is e = sym (ranked m n Equal is)
    go Greater is e = absurd cc

pub numbers_less : (m n : ℕ) → nat_cmp m n ≡ Less → m < n
numbers_less m n e = ranked m n Less (sym e)

pub less_numbers : (m n : ℕ) → m < n → nat_cmp m n ≡ Less
less_numbers m n less = go (nat_cmp m n) refl
  where
    go : (o : Ordering) → o ≡ nat_cmp m n → nat_cmp m n ≡ Less
    go Less is = sym is
    go Equal is = absurd (omega (arith, less, ranked m n Equal is))
    go Greater is = absurd (omega (arith, less, ranked m n Greater is))

pub greater_numbers : (m n : ℕ) → n < m → nat_cmp m n ≡ Greater
greater_numbers m n less = go (nat_cmp m n) refl
  where
    go : (o : Ordering) → o ≡ nat_cmp m n → nat_cmp m n ≡ Greater
    go Less is = absurd (omega (arith, less, ranked m n Less is))
    go Equal is = absurd (omega (arith, less, ranked m n Equal is))
    go Greater is = sym is

pub keys_tied : (xs : List ℕ) → slice_cmp nat_cmp xs xs ≡ Equal
keys_tied xs = tied_itself nat_list_cmp_total xs

-- what goes before another one
pub before_cases : (version : KeyVersion) (key : List ℕ) (number : ℕ) → GoesBefore version key number
    → (slice_cmp nat_cmp version.key key ≡ Less) ⊎ ((version.key ≡ key) × (number < version.number))
before_cases version key number b = go (slice_cmp nat_cmp version.key key) refl b
  where
    go : (o : Ordering) → slice_cmp nat_cmp version.key key ≡ o → ordering_then o (nat_cmp number version.number) ≡ Less
        → (slice_cmp nat_cmp version.key key ≡ Less) ⊎ ((version.key ≡ key) × (number < version.number))
    go Less is e = inl is
    go Equal is e = inr (keys_equal version.key key is, numbers_less number version.number e)
    go Greater is e = absurd cc

-- a version of the key goes before its smaller numbers, and before no other
pub same_key_before : (version : KeyVersion) (key : List ℕ) (number : ℕ) → version.key ≡ key → number < version.number → GoesBefore version key number
same_key_before version key number same less =
    ap (λ (o : Ordering). ordering_then o (nat_cmp number version.number)) (ap (λ (k : List ℕ). slice_cmp nat_cmp k key) same ∙ keys_tied key)
    ∙ less_numbers number version.number less

-- what does not go before, and is at another spot, comes after
pub after_others : (one other : KeyVersion) → (Precedes one other → ⊥) → ((one.key ≡ other.key) × (one.number ≡ other.number) → ⊥) → Precedes other one
after_others one other not_before apart = go (version_order one other) refl
  where
    equal : (o : Ordering) → slice_cmp nat_cmp one.key other.key ≡ o → ordering_then o (nat_cmp other.number one.number) ≡ Equal → ⊥
    equal Less is e = absurd cc
    equal Equal is e = apart (keys_equal one.key other.key is, numbers_equal other.number one.number e)
    equal Greater is e = absurd cc

    go : (o : Ordering) → version_order one other ≡ o → Precedes other one
    go Less is = absurd (not_before is)
    go Equal is = absurd (equal (slice_cmp nat_cmp one.key other.key) refl is)
    go Greater is = IsTotalOrder.antisymm versions_total other one ∙ ap ordering_reverse is
