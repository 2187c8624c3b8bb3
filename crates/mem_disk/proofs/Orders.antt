-- Files in order, as a fact by recursion over them, and as the test that a disk keeps.
use Rattle.std.proofs.Common.{◌≡◌, ◌≢◌, inl, inr, ◌<◌, Bool, true, false, not, List, [], ◌∷◌, subst, refl, arith, sym, ◌∙◌}
use native.Mathlib.Decide.{dec_le}
use Rattle.std.proofs.lemmas.Bool.Decides.{nat_tests}
use Rattle.disk_face.specs.declared.Side.{Side}
use Rattle.disk_face.specs.declared.SegName.{SegName}
use Rattle.disk_face.specs.declared.FilePlace.TheVariants.{Segment, Table}
use Rattle.disk_face.specs.View.{Place, segment}
use Rattle.disk_face.specs.Listing.{IsBefore}
use Rattle.disk_face.proofs.Laws.{before_trans, before_or_after}
use Rattle.mem_disk.specs.declared.parts.MemFile.{MemFile}
use Rattle.disk_face.specs.Equal.{both_left, both_right, side_eq_only, side_eq_self}
use Rattle.mem_disk.specs.Finite.{is_at_self}
use Rattle.mem_disk.specs.Mem.{side_eq, is_at, is_before, precedes, is_before_all, AreInOrder}

-- a file at the place may stand before each of the list
abbrev pub IsBeforeAll : Place → List MemFile → Type 0
IsBeforeAll p [] = Unit {0}
IsBeforeAll p (x ∷ xs) = (precedes p x.place ≡ true) × IsBeforeAll p xs

-- each file stands before all later ones
abbrev pub Ascend : List MemFile → Type 0
Ascend [] = Unit {0}
Ascend (m ∷ ms) = IsBeforeAll m.place ms × Ascend ms

pub before_true : (a b : SegName) → is_before a b ≡ true → IsBefore a b
before_true a b e = elim (dec_le b.wal a.wal) [
  | no h ↦ inl (omega (arith, h))
  | yes le ↦ let same : a.wal ≡ b.wal = grind (arith, nat_tests) in let below : a.index < b.index = grind (arith, nat_tests) in inr (same, below)
]

before_false : (a b : SegName) → is_before a b ≡ false → IsBefore a b → ⊥
before_false a b e (inl p) = grind (arith, nat_tests)
before_false a b e (inr p) = let w : a.wal ≡ b.wal = p.0 in let i : a.index < b.index = p.1 in grind (arith, nat_tests)

before_test : (a b : SegName) → IsBefore a b → is_before a b ≡ true
before_test a b p = go (is_before a b) refl
  where
    go : (t : Bool) → is_before a b ≡ t → is_before a b ≡ true
    go true e = e
    go false e = absurd (before_false a b e p)

pub not_true : (b : Bool) → not b ≡ true → b ≡ false
not_true true e = cc
not_true false e = refl

pub not_false : (b : Bool) → not b ≡ false → b ≡ true
not_false true e = refl
not_false false e = cc

-- segments of one side stand by their names
pub named_before : (s : Side) (n m : SegName) → precedes (segment s n) (segment s m) ≡ true → IsBefore n m
named_before s n m e = before_true n m (rw (side_eq_self s) at e)

before_named : (s : Side) (n m : SegName) → IsBefore n m → precedes (segment s n) (segment s m) ≡ true
before_named s n m h = rw (side_eq_self s) (before_test n m h)

other_side : (s t : Side) (n m : SegName) → side_eq s t ≡ false → precedes (segment s n) (segment t m) ≡ true
other_side s t n m e = rw e refl

-- no file stands before itself
pub not_before_self : (p : Place) → precedes p p ≡ false
not_before_self (Segment s n) = go (is_before n n) refl
  where
    go : (t : Bool) → is_before n n ≡ t → precedes (segment s n) (segment s n) ≡ false
    go true e = let h : IsBefore n n = before_true n n e in let clash : ⊥ = elim h [ inl p ↦ omega (arith, p) | inr p ↦ omega (arith, p.1) ] in absurd clash
    go false e = rw (side_eq_self s, e) refl
not_before_self (Table n) = grind (arith, nat_tests)

-- A file that may not stand before another one of its side goes behind it: the other one stands before it, and before all that it does.
pub stands_behind : (x m : Place) → precedes x m ≡ false → is_at x m ≡ false → precedes m x ≡ true
stands_behind (Segment s n) (Segment t k) e at = go (side_eq s t) refl
  where
    go : (b : Bool) → side_eq s t ≡ b → precedes (segment t k) (segment s n) ≡ true
    go false is = let clash : true ≡ false = sym (other_side s t n k is) ∙ e in cc
    go true is = subst (λ (r : Side). precedes (segment r k) (segment s n) ≡ true) (side_eq_only s t is) (before_named s k n after)
      where
        differ : n ≢ k
        differ same =
            let here : is_at (segment s n) (segment t k) ≡ true = subst (λ (r : Side). is_at (segment s n) (segment r k) ≡ true) (side_eq_only s t is)
            (subst (λ (l : SegName). is_at (segment s n) (segment s l) ≡ true) same (is_at_self (segment s n))) in
            let clash : true ≡ false = sym here ∙ at in
            cc

        after : IsBefore k n
        after = elim (before_or_after n k differ) [
          | inl h ↦
              let there : precedes (segment s n) (segment t k) ≡ true = subst (λ (r : Side). precedes (segment s n) (segment r k) ≡ true) (side_eq_only s t is)
              (before_named s n k h) in
              let clash : true ≡ false = sym there ∙ e in
              cc
          | inr h ↦ h
        ]
stands_behind (Segment s n) (Table k) e at = refl
stands_behind (Table n) (Segment s k) e at = refl
stands_behind (Table n) (Table k) e at = grind (arith, nat_tests)

pub behind_all : (x m y : Place) → precedes x m ≡ false → is_at x m ≡ false → precedes x y ≡ true → precedes m y ≡ true
behind_all (Segment s n) (Table k) y e at up = cc
behind_all (Table n) (Segment s k) y e at up = cc
behind_all (Segment s n) (Segment t k) (Table j) e at up = refl
behind_all (Table n) (Table k) (Segment s j) e at up = refl
behind_all (Table n) (Table k) (Table j) e at up = grind (arith, nat_tests)
behind_all (Segment s n) (Segment t k) (Segment r j) e at up = go (side_eq s t) refl
  where
    go : (b : Bool) → side_eq s t ≡ b → precedes (segment t k) (segment r j) ≡ true
    go false is = let clash : true ≡ false = sym (other_side s t n k is) ∙ e in cc
    go true is = on (side_eq t r) refl
      where
        on : (b : Bool) → side_eq t r ≡ b → precedes (segment t k) (segment r j) ≡ true
        on false other = other_side t r k j other
        on true same =
            let t_is : s ≡ t = side_eq_only s t is in
            let r_is : t ≡ r = side_eq_only t r same in
            let first : precedes (segment t k) (segment s n) ≡ true = stands_behind (segment s n) (segment t k) e at in
            let k_n : IsBefore k n = named_before t k n (subst (λ (l : Side). precedes (segment t k) (segment l n) ≡ true) t_is first) in
            let n_j : IsBefore n j = named_before s n j (subst (λ (l : Side). precedes (segment s n) (segment l j) ≡ true) (sym (t_is ∙ r_is)) up) in
            subst (λ (l : Side). precedes (segment t k) (segment l j) ≡ true) r_is (before_named t k j (before_trans k n j k_n n_j))

before_all_open : (p : Place) (fs : List MemFile) → is_before_all p fs ≡ true → IsBeforeAll p fs
before_all_open p [] e = tt
before_all_open p (x ∷ xs) e = (both_left _ _ e, before_all_open p xs (both_right _ _ e))

before_all_close : (p : Place) (fs : List MemFile) → IsBeforeAll p fs → is_before_all p fs ≡ true
before_all_close p [] h = refl
before_all_close p (x ∷ xs) h = rw h.0 (before_all_close p xs h.1)

pub ordered_open : (fs : List MemFile) → AreInOrder fs → Ascend fs
ordered_open [] e = tt
ordered_open (m ∷ ms) e = (before_all_open m.place ms (both_left _ _ e), ordered_open ms (both_right _ _ e))

pub ordered_close : (fs : List MemFile) → Ascend fs → AreInOrder fs
ordered_close [] h = refl
ordered_close (m ∷ ms) h = rw (before_all_close m.place ms h.0) (ordered_close ms h.1)
