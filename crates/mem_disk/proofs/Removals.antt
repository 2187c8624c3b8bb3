-- What is held once a file is taken away: by induction over the files before it.
use Rattle.std.proofs.Common.{◌≡◌, ℕ, zero, suc, Bool, true, false, List, [], ◌∷◌, sym, ◌∙◌, refl, subst, Some, None}
use Rattle.std.specs.List.{remove}
use Rattle.disk_face.specs.View.{Place}
use Rattle.mem_disk.specs.declared.parts.MemFile.{MemFile}
use Rattle.mem_disk.specs.Finite.{is_at_only}
use Rattle.mem_disk.specs.Mem.{is_at, files_held, index_at, AreInOrder, ChangesAt}
use Rattle.mem_disk.proofs.Orders.{IsBeforeAll, Ascend, ordered_open, ordered_close}
use Rattle.mem_disk.proofs.Held.{unsuc_option, held_other, held_skip, set_others_same, behind_absent}

before_all_remove : (q : Place) (fs : List MemFile) (j : ℕ) → IsBeforeAll q fs → IsBeforeAll q (remove fs j)
before_all_remove q [] zero h = h
before_all_remove q [] (suc j) h = h
before_all_remove q (x ∷ xs) zero h = h.1
before_all_remove q (x ∷ xs) (suc j) h = (h.0, before_all_remove q xs j h.1)

remove_ascend : (fs : List MemFile) (i : ℕ) → Ascend fs → Ascend (remove fs i)
remove_ascend [] zero up = up
remove_ascend [] (suc i) up = up
remove_ascend (f ∷ fs) zero up = up.1
remove_ascend (f ∷ fs) (suc i) up = (before_all_remove f.place fs i up.0, remove_ascend fs i up.1)

pub remove_ordered : (fs : List MemFile) (i : ℕ) → AreInOrder fs → AreInOrder (remove fs i)
remove_ordered fs i up = ordered_close (remove fs i) (remove_ascend fs i (ordered_open fs up))

removed : (p : Place) (fs : List MemFile) (i : ℕ) → index_at p fs ≡ Some i → Ascend fs
    → ChangesAt p (λ f g. g ≡ None) (files_held fs) (files_held (remove fs i))
removed p [] i e up = cc
removed p (f ∷ fs) i e up = go (is_at f.place p) refl (removed p fs)
  where
    go : (b : Bool) → is_at f.place p ≡ b
        → ((j : ℕ) → index_at p fs ≡ Some j → Ascend fs → ChangesAt p (λ f g. g ≡ None) (files_held fs) (files_held (remove fs j)))
        → ChangesAt p (λ f g. g ≡ None) (files_held (f ∷ fs)) (files_held (remove (f ∷ fs) i))
    go true at deeper =
        let z : Some 0 ≡ Some i = rw at at e in
        let i_is : 0 ≡ i = cc in
        let is : f.place ≡ p = sym (is_at_only f.place p at) in
        subst (λ (k : ℕ). ChangesAt p (λ f g. g ≡ None) (files_held (f ∷ fs)) (files_held (remove (f ∷ fs) k))) i_is (record {
          here = behind_absent p fs (subst (λ (q : Place). IsBeforeAll q fs) is up.0);
          others = λ q ne. sym (held_other p f fs is q ne);
        })
    go false at deeper =
        let z = rw at at e in
        let j = unsuc_option (index_at p fs) i z in
        let h = deeper j.0 j.1 up.1 in
        subst (λ (k : ℕ). ChangesAt p (λ f g. g ≡ None) (files_held (f ∷ fs)) (files_held (remove (f ∷ fs) k))) (sym j.2) (record {
          here = held_skip f (remove fs j.0) p at ∙ h.here;
          others = λ q ne. set_others_same f fs (remove fs j.0) q (h.others q ne);
        })

pub remove_changes : (p : Place) (fs : List MemFile) (i : ℕ) → index_at p fs ≡ Some i → AreInOrder fs
    → ChangesAt p (λ f g. g ≡ None) (files_held fs) (files_held (remove fs i))
remove_changes p fs i e up = removed p fs i e (ordered_open fs up)
