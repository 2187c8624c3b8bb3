-- The files of a list, by their places.
use Rattle.std.proofs.Common.{◌≡◌, ◌≢◌, ℕ, zero, suc, Bool, true, false, cond, List, [], ◌∷◌, ap, sym, ◌∙◌, refl, subst, Option, Some, None, arith, slice_index_or, slice_set}
use Rattle.std.specs.Prelude.{option_map, IfSome, IfNone}
use Rattle.disk_face.specs.View.{Place, File}
use Rattle.mem_disk.specs.declared.parts.MemFile.{MemFile}
use Rattle.mem_disk.specs.Finite.{is_at_self, is_at_only}
use Rattle.mem_disk.specs.Mem.{is_at, is_table, file_of, files_held, index_at, precedes, FoundAt}
use Rattle.mem_disk.proofs.Orders.{IsBeforeAll, not_before_self, ordered_open, ordered_close}

pub is_at_other : (p q : Place) → q ≢ p → is_at p q ≡ false
is_at_other p q ne = go (is_at p q) refl
  where
    go : (b : Bool) → is_at p q ≡ b → b ≡ false
    go true e = absurd (ne (is_at_only p q e))
    go false e = refl

pub held_skip : (m : MemFile) (ms : List MemFile) (q : Place) → is_at m.place q ≡ false → files_held (m ∷ ms) q ≡ files_held ms q
held_skip m ms q at = rw at refl

pub held_first : (m : MemFile) (ms : List MemFile) (q : Place) → is_at m.place q ≡ true → files_held (m ∷ ms) q ≡ Some (file_of m)
held_first m ms q at = rw at refl

pub held_here : (p : Place) (m : MemFile) (ms : List MemFile) → m.place ≡ p → files_held (m ∷ ms) p ≡ Some (file_of m)
held_here p m ms is = held_first m ms p (subst (λ (q : Place). is_at q p ≡ true) (sym is) (is_at_self p))

pub held_other : (p : Place) (m : MemFile) (ms : List MemFile) → m.place ≡ p → (q : Place) → q ≢ p → files_held (m ∷ ms) q ≡ files_held ms q
held_other p m ms is q ne = held_skip m ms q (subst (λ (r : Place). is_at r q ≡ false) (sym is) (is_at_other p q ne))

pub unsuc_option : (o : Option ℕ) (i : ℕ) → option_map suc o ≡ Some i → (j : ℕ) × (o ≡ Some j) × (i ≡ suc j)
unsuc_option None i e = cc
unsuc_option (Some j) i e = (j, refl, cc)

pub set_others_same : (f : MemFile) (fs ms : List MemFile) (q : Place) → files_held ms q ≡ files_held fs q → files_held (f ∷ ms) q ≡ files_held (f ∷ fs) q
set_others_same f fs ms q e = ap (λ (o : Option File). cond (is_at f.place q) (Some (file_of f)) o) e

before_all_set : (p q : Place) (fs : List MemFile) (j : ℕ) (m : MemFile) → ((d : MemFile) → (slice_index_or fs j d).place ≡ p) → m.place ≡ p
    → IsBeforeAll q fs → IsBeforeAll q (slice_set fs j m)
before_all_set p q [] j m was is h = h
before_all_set p q (x ∷ xs) zero m was is h = (subst (λ (k : Place). precedes q k ≡ true) (was x ∙ sym is) h.0, h.1)
before_all_set p q (x ∷ xs) (suc j) m was is h = (h.0, before_all_set p q xs j m was is h.1)

-- after a file stands none of its place
pub behind_absent : (p : Place) (xs : List MemFile) → IsBeforeAll p xs → files_held xs p ≡ None
behind_absent p [] up = refl
behind_absent p (y ∷ ys) up = go (is_at y.place p) refl (behind_absent p ys up.1)
  where
    go : (b : Bool) → is_at y.place p ≡ b → files_held ys p ≡ None → files_held (y ∷ ys) p ≡ None
    go true at deeper =
        let self : precedes p y.place ≡ false = subst (λ (q : Place). precedes p q ≡ false) (is_at_only y.place p at) (not_before_self p) in
        let clash : true ≡ false = sym up.0 ∙ self in
        cc
    go false at deeper = held_skip y ys p at ∙ deeper

module _ (p : Place) where
  found_first : (f : MemFile) (fs : List MemFile) → f.place ≡ p → FoundAt p (f ∷ fs) 0
  found_first f fs is = record {
    below = omega arith;
    place = λ d. is;
    kind = λ d. ap is_table is;
    here = λ d. held_here p f fs is;
    set_here = λ m at. held_here p m fs at;
    set_others = λ m at q ne. held_other p m fs at q ne ∙ sym (held_other p f fs is q ne);
    set_ordered = λ m at up.
        let ascend = ordered_open (f ∷ fs) up in
        ordered_close (m ∷ fs) (subst (λ (q : Place). IsBeforeAll q fs) (is ∙ sym at) ascend.0, ascend.1);
  }

  found_later : (f : MemFile) (fs : List MemFile) (j : ℕ) → is_at f.place p ≡ false → FoundAt p fs j → FoundAt p (f ∷ fs) (suc j)
  found_later f fs j at h = record {
    below = omega (arith, h.below);
    place = h.place;
    kind = h.kind;
    here = λ d. held_skip f fs p at ∙ h.here d;
    set_here = λ m is. held_skip f (slice_set fs j m) p at ∙ h.set_here m is;
    set_others = λ m is q ne. set_others_same f fs (slice_set fs j m) q (h.set_others m is q ne);
    set_ordered = λ m is up.
        let ascend = ordered_open (f ∷ fs) up in
        ordered_close (f ∷ slice_set fs j m) (
          before_all_set p f.place fs j m h.place is ascend.0,
          ordered_open (slice_set fs j m) (h.set_ordered m is (ordered_close fs ascend.1)),
        );
  }

  pub found : (fs : List MemFile) (i : ℕ) → index_at p fs ≡ Some i → FoundAt p fs i
  found [] i e = cc
  found (f ∷ fs) i e = go (is_at f.place p) refl (found fs)
    where
      go : (b : Bool) → is_at f.place p ≡ b → ((j : ℕ) → index_at p fs ≡ Some j → FoundAt p fs j) → FoundAt p (f ∷ fs) i
      go true at deeper =
          let z : Some 0 ≡ Some i = rw at at e in
          let i_is : 0 ≡ i = cc in
          subst (λ (k : ℕ). FoundAt p (f ∷ fs) k) i_is (found_first f fs (sym (is_at_only f.place p at)))
      go false at deeper =
          let z = rw at at e in
          let j = unsuc_option (index_at p fs) i z in
          subst (λ (k : ℕ). FoundAt p (f ∷ fs) k) (sym j.2) (found_later f fs j.0 at (deeper j.0 j.1))

  pub absent : (fs : List MemFile) → index_at p fs ≡ None → files_held fs p ≡ None
  absent [] e = refl
  absent (f ∷ fs) e = go (is_at f.place p) refl (absent fs)
    where
      none_suc : (o : Option ℕ) → option_map suc o ≡ None → o ≡ None
      none_suc None h = refl
      none_suc (Some j) h = cc

      go : (b : Bool) → is_at f.place p ≡ b → (index_at p fs ≡ None → files_held fs p ≡ None) → files_held (f ∷ fs) p ≡ None
      go true at deeper = let z : ◌≡◌ {A = Option ℕ} (Some 0) None = rw at at e in cc
      go false at deeper = held_skip f fs p at ∙ deeper (none_suc _ (rw at at e))

-- what a search answers
pub found_some : (p : Place) (fs : List MemFile) (o : Option ℕ) → o ≡ index_at p fs → IfSome o (FoundAt p fs)
found_some p fs None e = tt
found_some p fs (Some i) e = found p fs i (sym e)

pub found_none : (p : Place) (fs : List MemFile) (o : Option ℕ) → o ≡ index_at p fs → IfNone o (files_held fs p ≡ None)
found_none p fs None e = absent p fs (sym e)
found_none p fs (Some i) e = tt
