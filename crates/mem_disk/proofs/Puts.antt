-- Where a file goes in the order of the files, and what is held once it is put: by induction over the files before its place.
use Rattle.std.proofs.Common.{◌≡◌, ◌≢◌, Bool, true, false, List, [], ◌∷◌, ap, sym, subst, ◌∙◌, refl, Some, None}
use Rattle.disk_face.specs.View.{Place}
use Rattle.mem_disk.specs.declared.parts.MemFile.{MemFile}
use Rattle.mem_disk.specs.Mem.{is_at, file_of, files_held, precedes, goes_before, put, AreInOrder, ChangesAt}
use Rattle.mem_disk.proofs.Orders.{IsBeforeAll, Ascend, not_true, not_false, behind_all, stands_behind, ordered_open, ordered_close}
use Rattle.mem_disk.proofs.Held.{held_here, held_other, held_skip, set_others_same}

put_front : (m x : MemFile) (xs : List MemFile) → goes_before m.place x ≡ true → put m (x ∷ xs) ≡ m ∷ x ∷ xs
put_front m x xs e = rw e refl

put_behind : (m x : MemFile) (xs : List MemFile) → goes_before m.place x ≡ false → put m (x ∷ xs) ≡ x ∷ put m xs
put_behind m x xs e = rw e refl

-- what is held once a file is put
put_here : (m : MemFile) (fs : List MemFile) → files_held fs m.place ≡ None → files_held (put m fs) m.place ≡ Some (file_of m)
put_here m [] none = held_here m.place m [] refl
put_here m (x ∷ xs) none = go (goes_before m.place x) refl (is_at x.place m.place) refl (put_here m xs)
  where
    go : (b : Bool) → goes_before m.place x ≡ b → (c : Bool) → is_at x.place m.place ≡ c
        → (files_held xs m.place ≡ None → files_held (put m xs) m.place ≡ Some (file_of m))
        → files_held (put m (x ∷ xs)) m.place ≡ Some (file_of m)
    go true e c at deeper = ap (λ (l : List MemFile). files_held l m.place) (put_front m x xs e) ∙ held_here m.place m (x ∷ xs) refl
    go false e true at deeper = let z : Some (file_of x) ≡ None = rw at at none in cc
    go false e false at deeper = ap (λ (l : List MemFile). files_held l m.place) (put_behind m x xs e)
        ∙ held_skip x (put m xs) m.place at ∙ deeper (rw at at none)

put_others : (m : MemFile) (fs : List MemFile) (q : Place) → q ≢ m.place → files_held (put m fs) q ≡ files_held fs q
put_others m [] q ne = held_other m.place m [] refl q ne
put_others m (x ∷ xs) q ne = go (goes_before m.place x) refl (put_others m xs q ne)
  where
    go : (b : Bool) → goes_before m.place x ≡ b → files_held (put m xs) q ≡ files_held xs q → files_held (put m (x ∷ xs)) q ≡ files_held (x ∷ xs) q
    go true e deeper = ap (λ (l : List MemFile). files_held l q) (put_front m x xs e) ∙ held_other m.place m (x ∷ xs) refl q ne
    go false e deeper = ap (λ (l : List MemFile). files_held l q) (put_behind m x xs e) ∙ set_others_same x xs (put m xs) q deeper

pub put_changes : (m : MemFile) (fs : List MemFile) → files_held fs m.place ≡ None
    → ChangesAt m.place (λ f g. g ≡ Some (file_of m)) (files_held fs) (files_held (put m fs))
put_changes m fs none = record { here = put_here m fs none; others = put_others m fs }

-- the order is kept
before_all_put : (p : Place) (m : MemFile) (xs : List MemFile) → precedes p m.place ≡ true → IsBeforeAll p xs → IsBeforeAll p (put m xs)
before_all_put p m [] here h = (here, tt)
before_all_put p m (y ∷ ys) here h = go (goes_before m.place y) refl (before_all_put p m ys here h.1)
  where
    go : (b : Bool) → goes_before m.place y ≡ b → IsBeforeAll p (put m ys) → IsBeforeAll p (put m (y ∷ ys))
    go true e deeper = subst (IsBeforeAll p) (sym (put_front m y ys e)) (here, h)
    go false e deeper = subst (IsBeforeAll p) (sym (put_behind m y ys e)) (h.0, deeper)

before_all_behind : (x m : Place) (xs : List MemFile) → precedes x m ≡ false → is_at x m ≡ false → IsBeforeAll x xs → IsBeforeAll m xs
before_all_behind x m [] e at h = tt
before_all_behind x m (y ∷ ys) e at h = (behind_all x m y.place e at h.0, before_all_behind x m ys e at h.1)

put_ascend : (m : MemFile) (fs : List MemFile) → files_held fs m.place ≡ None → Ascend fs → Ascend (put m fs)
put_ascend m [] none up = (tt, tt)
put_ascend m (x ∷ xs) none up = go (goes_before m.place x) refl (is_at x.place m.place) refl (put_ascend m xs)
  where
    go : (b : Bool) → goes_before m.place x ≡ b → (c : Bool) → is_at x.place m.place ≡ c
        → (files_held xs m.place ≡ None → Ascend xs → Ascend (put m xs)) → Ascend (put m (x ∷ xs))
    go b e true at deeper = let z : Some (file_of x) ≡ None = rw at at none in cc
    go true e false at deeper =
        let later : precedes x.place m.place ≡ false = not_true _ e in
        subst Ascend (sym (put_front m x xs e)) ((stands_behind x.place m.place later at, before_all_behind x.place m.place xs later at up.0), up)
    go false e false at deeper = subst Ascend (sym (put_behind m x xs e))
        (before_all_put x.place m xs (not_false _ e) up.0, deeper (rw at at none) up.1)

pub put_ordered : (m : MemFile) (fs : List MemFile) → files_held fs m.place ≡ None → AreInOrder fs → AreInOrder (put m fs)
put_ordered m fs none up = ordered_close (put m fs) (put_ascend m fs none (ordered_open fs up))
