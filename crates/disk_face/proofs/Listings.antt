-- The order of names, and ascending lists: any two names are in order, and a longer list ascends as its parts do.
use Rattle.std.proofs.Common.{◌≡◌, ◌≢◌, ◌⊎◌, inl, inr, suc, List, ◌∷◌, All, AllPairs, sym, arith}
use native.Mathlib.Decide.{dec_le}
use Rattle.disk_face.specs.declared.SegName.{SegName}
use Rattle.disk_face.specs.Listing.{IsBefore}
use Rattle.disk_face.proofs.Places.{same_number}

-- a name before one that is before a third is before the third
pub before_trans : (a b c : SegName) → IsBefore a b → IsBefore b c → IsBefore a c
before_trans a b c (inl p) (inl q) = inl (omega (arith, p, q))
before_trans a b c (inl p) (inr q) = inl (omega (arith, p, q.0))
before_trans a b c (inr p) (inl q) = inl (omega (arith, p.0, q))
before_trans a b c (inr p) (inr q) = inr (omega (arith, p.0, q.0), omega (arith, p.1, q.1))

-- no name is before itself
pub not_before_itself : (a b : SegName) → IsBefore a b → a ≢ b
not_before_itself a b (inl p) e = let w : a.wal ≡ b.wal = cc in omega (arith, p, w)
not_before_itself a b (inr p) e = let x : a.index ≡ b.index = cc in omega (arith, p.1, x)

-- of two different names one is before the other
pub before_or_after : (a b : SegName) → a ≢ b → IsBefore a b ⊎ IsBefore b a
before_or_after a b ne = elim (same_number a.wal b.wal) [
  | inl w ↦ elim (same_number a.index b.index) [
    | inl x ↦ absurd (ne (λ i. record { wal = w i; index = x i }))
    | inr not ↦ elim (dec_le a.index b.index) [ yes le ↦ inl (inr (w, omega (arith, le, not))) | no h ↦ inr (inr (sym w, omega (arith, h))) ]
  ]
  | inr not ↦ elim (dec_le a.wal b.wal) [ yes le ↦ inl (inl (omega (arith, le, not))) | no h ↦ inr (inl (omega (arith, h))) ]
]

module _ {X : Type 0} (R : X → X → Type 0) (x : X) (xs : List X) (pairs : AllPairs R (x ∷ xs)) where
  -- the first item of an ascending list is before all others
  pub AllPairs-head : All (R x) xs
  AllPairs-head k d below = pairs 0 (suc k) d (omega arith) (omega (arith, below))

  -- what follows the first item of an ascending list is ascending
  pub AllPairs-tail : AllPairs R xs
  AllPairs-tail i j d before below = pairs (suc i) (suc j) d (omega (arith, before)) (omega (arith, below))
