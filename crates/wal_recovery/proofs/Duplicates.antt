-- Directories with a listing have no name twice, and of the names that stand twice one is the least.
use Rattle.std.proofs.Common.{◌≡◌, ◌⊎◌, inl, inr, ℕ, suc, ◌≤◌, ◌<◌, List, [], ◌∷◌, sym, subst, ap, ◌∙◌, refl, arith}
use Rattle.std.specs.Prelude.{Contains}
use Rattle.disk_face.specs.declared.Side.TheVariants.{Primary, Secondary}
use Rattle.disk_face.specs.View.{Dirs}
use Rattle.segment_merge.proofs.Laws.{none_within, within_cases}
use Rattle.wal_recovery.specs.declared.fault.RecoverFault.TheVariants as faults
use Rattle.wal_recovery.specs.Listing.{Stored, Wal, AreByIndex, AreByNumber, IsOf, IsListingOf, IsTwice, IsDuplicate}
use Rattle.wal_recovery.proofs.OneAnswer.{by_low, of_low}

-- segments of one WAL with one index are one
one_index : (low : ℕ) (segments : List Stored) (a b : Stored) → AreByIndex low segments → Contains segments a → Contains segments b → a.index ≡ b.index → a ≡ b
unfolding AreByIndex
one_index low [] a b by at to e = absurd (none_within a at)
one_index low (s ∷ segments) a b by at to e = elim (within_cases s segments a at) [
  | inl sa ↦ elim (within_cases s segments b to) [
    | inl sb ↦ sym sa ∙ sb
    | inr later ↦ absurd (omega (arith, by_low (suc s.index) segments b by.1 later, ap (λ (x : Stored). x.index) sa, e))
  ]
  | inr behind ↦ elim (within_cases s segments b to) [
    | inl sb ↦ absurd (omega (arith, by_low (suc s.index) segments a by.1 behind, ap (λ (x : Stored). x.index) sb, e))
    | inr later ↦ one_index (suc s.index) segments a b by.1 behind later e
  ]
]

one_of : (low : ℕ) (wals : List Wal) (n : ℕ) (a b : Stored) → AreByNumber low wals → IsOf wals n a → IsOf wals n b → a.index ≡ b.index → a ≡ b
unfolding AreByNumber
one_of low [] n a b by (u, h, is, at) other e = absurd (none_within u h)
one_of low (w ∷ wals) n a b by (u, h, is, at) (v, k, to, on) e = elim (within_cases w wals u h) [
  | inl wu ↦ elim (within_cases w wals v k) [
    | inl wv ↦ one_index 0 w.segments a b by.2 (subst (λ (x : Wal). Contains x.segments a) (sym wu) at)
        (subst (λ (x : Wal). Contains x.segments b) (sym wv) on) e
    | inr later ↦ absurd (omega (arith, of_low (suc w.number) wals n b by.3 (v, later, to, on), is, ap (λ (x : Wal). x.number) wu))
  ]
  | inr behind ↦ elim (within_cases w wals v k) [
    | inl wv ↦ absurd (omega (arith, of_low (suc w.number) wals n a by.3 (u, behind, is, at), to, ap (λ (x : Wal). x.number) wv))
    | inr later ↦ one_of (suc w.number) wals n a b by.3 (u, behind, is, at) (v, later, to, on) e
  ]
]

-- what is listed does not stand twice
pub listed_or_twice : (dirs : Dirs) (wals : List Wal) (wal index : ℕ) → IsListingOf dirs wals → IsTwice dirs wal index → ⊥
listed_or_twice dirs wals wal index listed (named, one, two, here, there) =
    let a : Stored = record { side = Primary; index = index; content = one } in
    let b : Stored = record { side = Secondary; index = index; content = two } in
    let same : a ≡ b = one_of 0 wals wal a b listed.order ((listed.same wal a).1 (named, here)) ((listed.same wal b).1 (named, there)) refl in
    let sides : Primary ≡ Secondary = ap (λ (s : Stored). s.side) same in
    cc

-- one of them is the least
pub one_duplicate : (dirs : Dirs) (w i v j : ℕ) → IsDuplicate dirs w i → IsDuplicate dirs v j → faults.DuplicateSegment w i ≡ faults.DuplicateSegment v j
one_duplicate dirs w i v j a b = let same = both (a.least v j b.twice) (b.least w i a.twice) in λ k. faults.DuplicateSegment (same.0 k) (same.1 k)
  where
    both : (w < v) ⊎ ((w ≡ v) × (i ≤ j)) → (v < w) ⊎ ((v ≡ w) × (j ≤ i)) → (w ≡ v) × (i ≡ j)
    both (inl low) (inl high) = absurd (omega (arith, low, high))
    both (inl low) (inr (e, le)) = absurd (omega (arith, low, e))
    both (inr (e, le)) (inl high) = absurd (omega (arith, high, e))
    both (inr (e, le)) (inr (d, ge)) = (e, omega (arith, le, ge))
