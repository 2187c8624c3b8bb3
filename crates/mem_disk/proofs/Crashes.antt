-- What a crash leaves of a list of files: at each place by the picks, and in order.
use Rattle.std.proofs.Common.{◌≡◌, Bool, true, false, List, [], ◌∷◌, ◌++◌, Option, Some, None, sym, ap, subst, refl, ◌∙◌, append_assoc, append-nil}
use Rattle.std.specs.Prelude.{option_map, IfSome}
use Rattle.std.specs.Option.{option_to_list}
use Rattle.disk_face.specs.View.{Place, File}
use Rattle.disk_face.specs.Tables.{whole}
use Rattle.mem_disk.specs.declared.parts.MemFile.{MemFile}
use Rattle.mem_disk.specs.declared.picks.FilePick.{FilePick}
use Rattle.mem_disk.specs.Finite.{is_at_only}
use Rattle.mem_disk.specs.Mem.{is_at, file_of, files_held, precedes, AreInOrder}
use Rattle.mem_disk.specs.Picks.{tail_of, picked, left_of, picked_dirs, whole_files}
use Rattle.mem_disk.specs.Leaving.{IsOneMoreLeft, AreLeft}
use Rattle.mem_disk.proofs.Held.{held_here, held_first, held_skip, behind_absent}
use Rattle.mem_disk.proofs.Orders.{IsBeforeAll, Ascend, ordered_open, ordered_close}

-- one file more, after the others
pub left_more : (picks : List FilePick) (fs : List MemFile) (f : MemFile) (before ms : List MemFile) → AreLeft picks fs before
    → IsOneMoreLeft picks f before ms → AreLeft picks (fs ++ f ∷ []) ms
left_more picks [] f before ms none one = (
  one.0,
  [],
  one.1,
  refl,
  one.2 ∙ ap (λ (l : List MemFile). l ++ option_to_list one.0) none
      ∙ sym (append-nil (option_to_list one.0)),
)
left_more picks (x ∷ xs) f before ms all one =
    let more : List MemFile = all.1 ++ option_to_list one.0 in (
      all.0,
      more,
      all.2,
      left_more picks xs f all.1 more all.3 (one.0, one.1, refl),
      one.2
          ∙ ap (λ (l : List MemFile). l ++ option_to_list one.0) all.4 ∙ append_assoc (option_to_list all.0) all.1 (option_to_list one.0),
    )

-- the order stays
before_left : (picks : List FilePick) (p : Place) (fs ms : List MemFile) → AreLeft picks fs ms → IsBeforeAll p fs → IsBeforeAll p ms
before_left picks p [] ms all up = subst (IsBeforeAll p) (sym all) tt
before_left picks p (f ∷ fs) ms all up = subst (IsBeforeAll p) (sym all.4) (go all.0 (all.2).place (before_left picks p fs all.1 all.3 up.1))
  where
    go : (left : Option MemFile) → IfSome left (λ m. m.place ≡ f.place) → IsBeforeAll p all.1 → IsBeforeAll p (option_to_list left ++ all.1)
    go None is deeper = deeper
    go (Some m) is deeper = (subst (λ (q : Place). precedes p q ≡ true) (sym is) up.0, deeper)

left_ascend : (picks : List FilePick) (fs ms : List MemFile) → AreLeft picks fs ms → Ascend fs → Ascend ms
left_ascend picks [] ms all up = subst Ascend (sym all) tt
left_ascend picks (f ∷ fs) ms all up = subst Ascend (sym all.4) (go all.0 (all.2).place (left_ascend picks fs all.1 all.3 up.1))
  where
    go : (left : Option MemFile) → IfSome left (λ m. m.place ≡ f.place) → Ascend all.1 → Ascend (option_to_list left ++ all.1)
    go None is deeper = deeper
    go (Some m) is deeper = (subst (λ (q : Place). IsBeforeAll q all.1) (sym is) (before_left picks f.place fs all.1 all.3 up.0), deeper)

pub left_ordered : (picks : List FilePick) (fs ms : List MemFile) → AreLeft picks fs ms → AreInOrder fs → AreInOrder ms
left_ordered picks fs ms all up = ordered_close ms (left_ascend picks fs ms all (ordered_open fs up))

-- what is left at each place
left_held : (picks : List FilePick) (fs ms : List MemFile) → AreLeft picks fs ms → Ascend fs → (p : Place)
    → files_held ms p ≡ whole_files (picked_dirs (files_held fs) picks) p
left_held picks [] ms all up p = ap (λ (l : List MemFile). files_held l p) all
left_held picks (f ∷ fs) ms all up p = ap (λ (l : List MemFile). files_held l p) all.4
    ∙ go (is_at f.place p) refl all.0 (all.2).place (all.2).bytes (left_held picks fs all.1 all.3 up.1 p)
  where
    go : (b : Bool) → is_at f.place p ≡ b → (left : Option MemFile) → IfSome left (λ m. m.place ≡ f.place)
        → option_map file_of left ≡ option_map whole (left_of picks f)
        → files_held all.1 p ≡ whole_files (picked_dirs (files_held fs) picks) p
        → files_held (option_to_list left ++ all.1) p ≡ whole_files (picked_dirs (files_held (f ∷ fs)) picks) p
    go true at left is bytes deeper = here left is bytes
      where
        place : p ≡ f.place
        place = is_at_only f.place p at

        there : whole_files (picked_dirs (files_held (f ∷ fs)) picks) p ≡ option_map whole (left_of picks f)
        there = ap (λ (o : Option File). option_map whole (picked p o (tail_of picks p))) (held_first f fs p at)
            ∙ ap (λ (q : Place). option_map whole (picked q (Some (file_of f)) (tail_of picks q))) place

        here : (left : Option MemFile) → IfSome left (λ m. m.place ≡ f.place) → option_map file_of left ≡ option_map whole (left_of picks f)
            → files_held (option_to_list left ++ all.1) p ≡ whole_files (picked_dirs (files_held (f ∷ fs)) picks) p
        here None is bytes = ap (files_held all.1) place ∙ behind_absent f.place all.1 (before_left picks f.place fs all.1 all.3 up.0) ∙ bytes ∙ sym there
        here (Some m) is bytes = held_here p m all.1 (is ∙ sym place) ∙ bytes ∙ sym there
    go false at None is bytes deeper = deeper ∙ ap (λ (o : Option File). option_map whole (picked p o (tail_of picks p))) (sym (held_skip f fs p at))
    go false at (Some m) is bytes deeper =
        let skipped : is_at m.place p ≡ false = subst (λ (q : Place). is_at q p ≡ false) (sym is) at in
        held_skip m all.1 p skipped ∙ deeper ∙ ap (λ (o : Option File). option_map whole (picked p o (tail_of picks p))) (sym (held_skip f fs p at))

pub left_files : (picks : List FilePick) (fs ms : List MemFile) → AreLeft picks fs ms → AreInOrder fs → (p : Place)
    → files_held ms p ≡ whole_files (picked_dirs (files_held fs) picks) p
left_files picks fs ms all up = left_held picks fs ms all (ordered_open fs up)
