-- The laws of a disk in memory (docs/formats/disk.md, "The disk"): it has no more files than its list, and each is sound.
use Rattle.std.proofs.Common.{◌≡◌, ◌==◌, ◌&&◌, ℕ, suc, Bool, true, false, List, [], ◌∷◌, length, sym, refl, subst, Some, arith, take, drop, append-nil, ap, ◌++◌, ◌∙◌}
use Rattle.std.proofs.lemmas.List.{take_all}
use Rattle.std.specs.Prelude.{IsSome, Contains, if◌then◌else◌}
use Rattle.disk_face.specs.declared.Side.{Side}
use Rattle.disk_face.specs.declared.FilePlace.TheVariants.{Segment, Table}
use Rattle.disk_face.specs.View.{Place, segment, table, File, Call, IsFiniteFiles, files}
use Rattle.mem_disk.specs.declared.parts.MemFile.{MemFile}
use Rattle.mem_disk.specs.declared.parts.MemOp.{MemOp}
use Rattle.mem_disk.specs.Mem.{side_eq, is_at, is_table, segment_of, table_of, file_of, files_held, first_or_now, at_moment, mem_view}
use Rattle.disk_face.specs.Image.{IsSoundFile, IsSound}
use Rattle.disk_face.specs.Calls.{fresh}
use Rattle.disk_face.specs.Tables.{whole}
use Rattle.disk_face.specs.Equal.{both_left, both_right, nat_eq_only, nat_eq_self, side_eq_only, side_eq_self}

pub is_at_self : (p : Place) → is_at p p ≡ true
is_at_self (Segment side name) = simp (side_eq_self, nat_eq_self)
is_at_self (Table upto) = nat_eq_self upto

pub is_at_only : (p q : Place) → is_at p q ≡ true → q ≡ p
is_at_only (Segment side name) (Segment s n) e =
    let names = both_right (side_eq side s) (name.wal == n.wal && name.index == n.index) e in
    let s_is = side_eq_only side s (both_left _ _ e) in
    let wal_is = nat_eq_only name.wal n.wal (both_left _ _ names) in
    let index_is = nat_eq_only name.index n.index (both_right _ _ names) in
    sym (λ i. segment (s_is i) (record { wal = wal_is i; index = index_is i }))
is_at_only (Segment side name) (Table x) e = cc
is_at_only (Table x) (Segment s n) e = cc
is_at_only (Table x) (Table y) e = ap table (sym (nat_eq_only x y e))

abbrev places_of : List MemFile → List Place
places_of [] = []
places_of (m ∷ ms) = m.place ∷ places_of ms

later : (q p : Place) (ps : List Place) → Contains ps p → Contains (q ∷ ps) p
later q p ps at = (suc at.0, omega (arith, at.1), at.2)

held_in : (fs : List MemFile) (p : Place) → IsSome (files_held fs p) → Contains (places_of fs) p
held_in [] p is = let none : false ≡ true = is in cc
held_in (m ∷ ms) p is = go (is_at m.place p) refl (held_in ms p)
  where
    go : (b : Bool) → is_at m.place p ≡ b → (IsSome (files_held ms p) → Contains (places_of ms) p) → Contains (places_of (m ∷ ms)) p
    go true at deeper = (0, omega arith, sym (is_at_only m.place p at))
    go false at deeper = later m.place p (places_of ms) (deeper (rw at at is))

pub finite_mem : (k : ℕ) (fs : List MemFile) (ops : List MemOp) (past : List (List MemFile)) (faults polls : Side → ℕ) (calls : List Call)
    → IsFiniteFiles ((mem_view fs ops past faults polls calls).history k)
unfolding mem_view
finite_mem k fs ops past faults polls calls = (places_of (at_moment past fs k), held_in (at_moment past fs k))

drop_all : (past : List (List MemFile)) → drop (length past) past ≡ []
drop_all [] = refl
drop_all (was ∷ past) = drop_all past

-- at the last moment the files stand as they do now
pub now_held : (past : List (List MemFile)) (now : List MemFile) → at_moment past now (length past) ≡ now
now_held past now = ap (first_or_now now) (drop_all past)

abbrev SoundSegment : File → Type 0
SoundSegment f = IsSoundFile f × (f.created ≡ false → f.sent ≡ [])

abbrev SoundTable : File → Type 0
SoundTable f = IsSoundFile f × (f.created ≡ true → f.reads ≡ f.sent)

segment_sound : (m : MemFile) → SoundSegment (segment_of m)
segment_sound m = elim m.created as (λ b. SoundSegment (if b then record
    { sent = m.sent.items; done = m.done; stable = m.stable; created = true; leaving = m.leaving; reads = take m.done m.sent.items } else
    record fresh { leaving = m.leaving })) [
      | true ↦ (record { stable = m.ordered; done = m.within; reads = ([], sym (append-nil (take m.done m.sent.items))) }, λ e. cc)
      | false ↦ (record { stable = omega arith; done = omega arith; reads = ([], refl) }, λ e. refl)
    ]

table_sound : (m : MemFile) → SoundTable (table_of m)
table_sound m = elim m.created as (λ b. SoundTable (if b then record (whole m.sent.items) { leaving = m.leaving } else record
    { sent = m.sent.items; done = m.done; stable = m.stable; created = false; leaving = m.leaving; reads = take m.done m.sent.items })) [
      | true ↦ (record { stable = omega arith; done = omega arith; reads = ([], all) }, λ e. refl)
      | false ↦ (record { stable = m.ordered; done = m.within; reads = ([], sym (append-nil (take m.done m.sent.items))) }, λ e. cc)
    ]
  where
    all : m.sent.items ≡ take (length m.sent.items) m.sent.items ++ []
    all = sym (append-nil (take (length m.sent.items) m.sent.items) ∙ take_all (length m.sent.items) m.sent.items (omega arith))

pub sound_of : (m : MemFile) → IsSound m.place (file_of m)
sound_of m = go m.place
  where
    go : (p : Place) → IsSound p (if is_table p then table_of m else segment_of m)
    go (Segment s n) = segment_sound m
    go (Table n) = table_sound m

pub sound_held : (fs : List MemFile) (p : Place) (f : File) → files_held fs p ≡ Some f → IsSound p f
sound_held [] p f is = cc
sound_held (m ∷ ms) p f is = go (is_at m.place p) refl (sound_held ms p f)
  where
    go : (b : Bool) → is_at m.place p ≡ b → (files_held ms p ≡ Some f → IsSound p f) → IsSound p f
    go true at deeper =
        let z : Some (file_of m) ≡ Some f = rw at at is in
        let f_is : file_of m ≡ f = cc in
        subst (λ (q : Place). IsSound q f) (sym (is_at_only m.place p at)) (subst (IsSound m.place) f_is (sound_of m))
    go false at deeper = deeper (rw at at is)

pub sound_mem : (fs : List MemFile) (ops : List MemOp) (past : List (List MemFile)) (faults polls : Side → ℕ) (calls : List Call) (p : Place)
    (f : File) → files (mem_view fs ops past faults polls calls) p ≡ Some f → IsSound p f
unfolding mem_view
sound_mem fs ops past faults polls calls p f is = sound_held fs p f (subst (λ (l : List MemFile). files_held l p ≡ Some f) (now_held past fs) is)
