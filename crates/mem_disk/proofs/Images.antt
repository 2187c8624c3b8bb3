-- What a crash leaves is an image that rests, and each image is left by some picks.
use Rattle.std.proofs.Common.{◌≡◌, inl, inr, ℕ, Bool, true, false, List, [], ◌∷◌, ◌++◌, length, take, drop, Option, Some, None, sym, ap, subst, refl, ◌∙◌}
use Rattle.std.specs.Prelude.{option_map, unwrap_or, if◌then◌else◌, IsTrue}
use Rattle.std.proofs.lemmas.List.{drop_at}
use Rattle.wal_base.specs.Prefixes.{IsPrefixOf}
use Rattle.disk_face.specs.declared.Side.{Side}
use Rattle.disk_face.specs.declared.SegName.{SegName}
use Rattle.disk_face.specs.declared.FilePlace.TheVariants.{Segment, Table}
use Rattle.disk_face.specs.View.{Place, segment, table, File, Files, Dirs}
use Rattle.disk_face.specs.Image.{IsImageOf, IsImage, IsSound, IsRestedFile, IsRested, as_read, dirs_as_read}
use Rattle.disk_face.specs.Tables.{whole}
use Rattle.disk_face.proofs.Laws.{same_place, image_of_none, read_image}
use Rattle.mem_disk.specs.declared.parts.MemFile.{MemFile}
use Rattle.mem_disk.specs.declared.picks.FilePick.{FilePick}
use Rattle.mem_disk.specs.Finite.{is_at_only, sound_held}
use Rattle.mem_disk.specs.Mem.{is_at, is_table, files_held, at_moment, ChangesAt}
use Rattle.mem_disk.specs.Picks.{tail_of, stands_as_read, picked, picked_dirs, whole_files, StandAsRead}
use Rattle.mem_disk.proofs.Held.{held_skip}
use Rattle.mem_disk.proofs.Calls.{files_now}

-- files that stand whole read as the directories
pub read_whole : (dirs : Dirs) (files : Files) → ((p : Place) → files p ≡ whole_files dirs p) → (p : Place) → dirs_as_read files p ≡ dirs p
read_whole dirs files is p = ap (as_read p) (is p) ∙ go p (dirs p)
  where
    go : (q : Place) (o : Option (List ℕ)) → as_read q (option_map whole o) ≡ o
    go q None = refl
    go (Segment side name) (Some bytes) = refl
    go (Table upto) (Some bytes) = refl

pub whole_again : (dirs : Dirs) (files : Files) → ((p : Place) → files p ≡ whole_files dirs p) → (p : Place) → files p ≡ whole_files (dirs_as_read files) p
whole_again dirs files is p = is p ∙ ap (option_map whole) (sym (read_whole dirs files is p))

pub whole_rested : (dirs : Dirs) (files : Files) → ((p : Place) → files p ≡ whole_files dirs p) → IsRested files
whole_rested dirs files is p f at = go (dirs p) (sym (is p) ∙ at)
  where
    go : (o : Option (List ℕ)) → option_map whole o ≡ Some f → IsRestedFile f
    go None e = cc
    go (Some bytes) e = let f_is : whole bytes ≡ f = cc in subst IsRestedFile f_is (record { created = refl; stays = refl; done = refl; reads = refl })

-- a file that is put keeps files at rest
pub rested_put : (place : Place) (bytes : List ℕ) (old new : Files)
    → ChangesAt place (λ f g. g ≡ Some (whole bytes)) old new → IsRested old → IsRested new
rested_put place bytes old new changes rested p f at = elim (same_place p place) [
  | inl e ↦
      let here : Some (whole bytes) ≡ Some f = sym changes.here ∙ ap new (sym e) ∙ at in
      let f_is : whole bytes ≡ f = cc in
      subst IsRestedFile f_is (record { created = refl; stays = refl; done = refl; reads = refl })
  | inr ne ↦ rested p f (sym (changes.others p ne) ∙ at)
]

-- what picks leave of a file is an image of it
free_image : (side : Side) (name : SegName) (f : File) (tail : Option (List ℕ))
    → IsImageOf (segment side name) (Some f) (if f.created then Some (take f.stable f.sent ++ unwrap_or tail []) else tail)
free_image side name f tail = go f.created refl tail
  where
    go : (b : Bool) → f.created ≡ b → (tail : Option (List ℕ)) → IsImageOf (segment side name) (Some f)
        (if f.created then Some (take f.stable f.sent ++ unwrap_or tail []) else tail)
    go true is tail = rw is (λ e. (unwrap_or tail [], refl))
    go false is None = rw is (λ e. cc)
    go false is (Some bytes) = rw is (λ e. cc)

picked_image : (p : Place) (f : Option File) (tail : Option (List ℕ)) → ((g : File) → f ≡ Some g → IsSound p g) → IsImageOf p f (picked p f tail)
picked_image p None tail sound = tt
picked_image (Table upto) (Some f) tail sound = read_image (table upto) (Some f) sound
picked_image (Segment side name) (Some f) tail sound = go f.leaving
  where
    go : (b : Bool) → IsImageOf (segment side name) (Some f)
        (if b then as_read (segment side name) (Some f) else if f.created then Some (take f.stable f.sent ++ unwrap_or tail []) else tail)
    go true = read_image (segment side name) (Some f) sound
    go false = free_image side name f tail

pub picked_is_image : (fs : List MemFile) (picks : List FilePick) → IsImage (files_held fs) (picked_dirs (files_held fs) picks)
picked_is_image fs picks p = picked_image p (files_held fs p) (tail_of picks p) (sound_held fs p)

-- the tail that an image has of a file
abbrev front_of : Option File → ℕ
front_of None = 0
front_of (Some f) = if f.created then length (take f.stable f.sent) else 0

-- a pick of each segment, by the image
module _ (files : Files) (dirs : Dirs) where
  abbrev tail_at : Place → Option (List ℕ)
  tail_at p = option_map (drop (front_of (files p))) (dirs p)

  abbrev picks_at : Place → List FilePick
  picks_at (Segment side name) = record { side = side; name = name; tail = tail_at (segment side name) } ∷ []
  picks_at (Table upto) = []

  abbrev pub picks_of : List MemFile → List FilePick
  picks_of [] = []
  picks_of (f ∷ fs) = picks_at f.place ++ picks_of fs

  -- the pick of a place, in front of others
  pick_first : (q p : Place) (picks : List FilePick) → is_table p ≡ false → is_at q p ≡ true → tail_of (picks_at q ++ picks) p ≡ tail_at p
  pick_first (Segment side name) p picks kind at = rw at (ap tail_at (sym (is_at_only (segment side name) p at)))
  pick_first (Table upto) p picks kind at =
      let clash : true ≡ false = ap is_table (sym (is_at_only (table upto) p at)) ∙ kind in
      cc

  pick_later : (q p : Place) (picks : List FilePick) → is_at q p ≡ false → tail_of (picks_at q ++ picks) p ≡ tail_of picks p
  pick_later (Segment side name) p picks at = rw at refl
  pick_later (Table upto) p picks at = refl

  tail_picked : (fs : List MemFile) (p : Place) (f : File) → is_table p ≡ false → files_held fs p ≡ Some f → tail_of (picks_of fs) p ≡ tail_at p
  tail_picked [] p f kind is = cc
  tail_picked (x ∷ xs) p f kind is = go (is_at x.place p) refl (tail_picked xs p f kind)
    where
      go : (b : Bool) → is_at x.place p ≡ b → (files_held xs p ≡ Some f → tail_of (picks_of xs) p ≡ tail_at p) → tail_of (picks_of (x ∷ xs)) p ≡ tail_at p
      go true at deeper = pick_first x.place p (picks_of xs) kind at
      go false at deeper = pick_later x.place p (picks_of xs) at ∙ deeper (sym (held_skip x xs p at) ∙ is)

-- the picks leave the image
free_left : (side : Side) (name : SegName) (f : File) (o : Option (List ℕ)) → f.leaving ≡ false → IsImageOf (segment side name) (Some f) o
    → (if f.created then Some (take f.stable f.sent ++ unwrap_or (option_map (drop (front_of (Some f))) o) []) else option_map (drop (front_of (Some f))) o) ≡ o
free_left side name f o stays im = go f.created refl o im
  where
    go : (b : Bool) → f.created ≡ b → (o : Option (List ℕ)) → IsImageOf (segment side name) (Some f) o
        → (if f.created then Some (take f.stable f.sent ++ unwrap_or (option_map (drop (front_of (Some f))) o) []) else option_map (drop (front_of (Some f))) o) ≡ o
    go true is None im = let clash : true ≡ false = sym (im is) ∙ stays in cc
    go true is (Some bytes) im =
        let front : List ℕ = take f.stable f.sent in
        let b : IsPrefixOf front bytes = im is in
        let behind : drop (length front) bytes ≡ b.0 = ap (drop (length front)) b.1 ∙ drop_at front b.0 (length front) refl in
        rw is (ap Some (ap (λ (l : List ℕ). front ++ l) behind ∙ sym b.1))
    go false is None im = rw is refl
    go false is (Some bytes) im = rw is refl

left_image : (p : Place) (f : File) (o tail : Option (List ℕ)) → (is_table p ≡ false → tail ≡ option_map (drop (front_of (Some f))) o)
    → IsImageOf p (Some f) o → (IsTrue (stands_as_read p f) → o ≡ as_read p (Some f)) → picked p (Some f) tail ≡ o
left_image (Table upto) f o tail tail_is im stands = sym (stands refl)
left_image (Segment side name) f o tail tail_is im stands = go f.leaving refl
  where
    go : (b : Bool) → f.leaving ≡ b
        → (if b then as_read (segment side name) (Some f) else if f.created then Some (take f.stable f.sent ++ unwrap_or tail []) else tail) ≡ o
    go true is = sym (stands is)
    go false is = subst (λ (t : Option (List ℕ)). (if f.created then Some (take f.stable f.sent ++ unwrap_or t []) else t) ≡ o) (sym (tail_is refl))
        (free_left side name f o is im)

pub image_picked : (fs : List MemFile) (dirs : Dirs) → IsImage (files_held fs) dirs → StandAsRead (files_held fs) dirs → (p : Place)
    → picked_dirs (files_held fs) (picks_of (files_held fs) dirs fs) p ≡ dirs p
image_picked fs dirs im stand p = go (files_held fs p) refl (im p)
  where
    go : (o : Option File) → files_held fs p ≡ o → IsImageOf p (files_held fs p) (dirs p)
        → picked_dirs (files_held fs) (picks_of (files_held fs) dirs fs) p ≡ dirs p
    go None is here = ap (λ (o : Option File). picked p o (tail_of (picks_of (files_held fs) dirs fs) p)) is
        ∙ sym (image_of_none p (dirs p) (subst (λ (o : Option File). IsImageOf p o (dirs p)) is here))
    go (Some f) is here = ap (λ (o : Option File). picked p o (tail_of (picks_of (files_held fs) dirs fs) p)) is
        ∙ left_image p f (dirs p) (tail_of (picks_of (files_held fs) dirs fs) p)
        (λ kind. tail_picked (files_held fs) dirs fs p f kind is ∙ ap (λ (o : Option File). option_map (drop (front_of o)) (dirs p)) is)
        (subst (λ (o : Option File). IsImageOf p o (dirs p)) is here) (stand p f is)

-- what a crash leaves, in words of the files before it
pub crash_stands : (fs kept : List MemFile) (past : List (List MemFile)) (new : Files) (shown picks : List FilePick) → shown ≡ picks
    → new ≡ files_held kept → ((p : Place) → files_held kept p ≡ whole_files (picked_dirs (files_held fs) shown) p)
    → (p : Place) → new p ≡ whole_files (picked_dirs (files_held (at_moment past fs (length past))) picks) p
crash_stands fs kept past new shown picks e is left p =
    ap (λ (f : Files). f p) is ∙ left p ∙ ap (λ (l : List FilePick). whole_files (picked_dirs (files_held fs) l) p) e
    ∙ ap (λ (f : Files). whole_files (picked_dirs f picks) p) (sym (files_now past fs))

pub crash_image : (fs : List MemFile) (old new : Files) (picks : List FilePick) → old ≡ files_held fs
    → ((p : Place) → new p ≡ whole_files (picked_dirs old picks) p) → IsImage old (dirs_as_read new)
crash_image fs old new picks is left p =
    subst (IsImageOf p (old p)) (sym (read_whole (picked_dirs old picks) new left p))
    (subst (λ (f : Files). IsImageOf p (f p) (picked_dirs f picks p)) (sym is) (picked_is_image fs picks p))
