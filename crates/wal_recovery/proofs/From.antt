-- The segments of WALs from a number on: what is left of files, of directories, and of a listing.
use Rattle.std.proofs.Common.{◌≡◌, ◌≤◌, ℕ, Bool, true, false, le-ltb, ltb-false, List, [], ◌∷◌, Option, Some, None, Contains, map, sym, subst, ap, ◌∙◌, refl, arith}
use Rattle.std.specs.Prelude.{nat_lt, if◌then◌else◌}
use Rattle.std.proofs.lemmas.List.Elements.{Contains-append_left, Contains-append_right}
use Rattle.disk_face.specs.declared.Side.{Side}
use Rattle.disk_face.specs.declared.SegName.{SegName}
use Rattle.disk_face.specs.declared.FilePlace.TheVariants.{Segment, Table}
use Rattle.disk_face.specs.declared.Listed.{Listed}
use Rattle.disk_face.specs.View.{Place, segment, File, Files, Dirs}
use Rattle.disk_face.specs.Image.{as_read, dirs_as_read}
use Rattle.disk_face.specs.Listing.{HasLength, IsListing}
use Rattle.segment_merge.proofs.Laws.{within_head, within_tail}
use Rattle.wal_recovery.specs.declared.listing.Found.{Found}
use Rattle.wal_recovery.specs.declared.wals.FoundWal.{FoundWal}
use Rattle.wal_recovery.specs.Listing.{Stored, Wal, from_wal}
use Rattle.wal_recovery.specs.Rows.{files_from, place_listed, IsRowOf, bytes_or_none, stored_in, wal_in, wals_in, Groups}

-- ---- all of them

pub all_files : (files : Files) → files_from 0 files ≡ files
all_files files i p = at p i
  where
    at : (p : Place) → files_from 0 files p ≡ files p
    at (Segment side name) = ap (λ (b : Bool). if b then None else files (segment side name)) (le-ltb name.wal 0 (omega arith))
    at (Table upto) = refl

pub all_dirs : (dirs : Dirs) → from_wal 0 dirs ≡ dirs
all_dirs dirs i p = at p i
  where
    at : (p : Place) → from_wal 0 dirs p ≡ dirs p
    at (Segment side name) = ap (λ (b : Bool). if b then None else dirs (segment side name)) (le-ltb name.wal 0 (omega arith))
    at (Table upto) = refl

module _ (least : ℕ) (files : Files) where
  -- the directories as what is left reads
  pub dirs_left : dirs_as_read (files_from least files) ≡ from_wal least (dirs_as_read files)
  dirs_left i p = at p i
    where
      at : (p : Place) → dirs_as_read (files_from least files) p ≡ from_wal least (dirs_as_read files) p
      at (Segment side name) = go (nat_lt name.wal least) refl
        where
          go : (b : Bool) → nat_lt name.wal least ≡ b
              → as_read (segment side name) (if nat_lt name.wal least then None else files (segment side name))
              ≡ (if nat_lt name.wal least then None else as_read (segment side name) (files (segment side name)))
          go true e = rw e refl
          go false e = rw e refl
      at (Table upto) = refl

  module _ (side : Side) (name : SegName) where
    abbrev here : Bool → Option File
    here b = if b then None else files (segment side name)

    -- a segment that is left
    pub left : least ≤ name.wal → files_from least files (segment side name) ≡ files (segment side name)
    left low = ap here (le-ltb name.wal least low)

    pub some_left : (f : File) → files_from least files (segment side name) ≡ Some f → (least ≤ name.wal) × (files (segment side name) ≡ Some f)
    some_left f is = go (nat_lt name.wal least) refl
      where
        go : (b : Bool) → nat_lt name.wal least ≡ b → (least ≤ name.wal) × (files (segment side name) ≡ Some f)
        go true e = absurd (let no : None ≡ Some f = sym (ap here e) ∙ is in cc)
        go false e = (ltb-false name.wal least e, sym (ap here e) ∙ is)

    pub has_left : (len : ℕ) → HasLength (files_from least files) (segment side name) len → (least ≤ name.wal) × HasLength files (segment side name) len
    has_left len (f, is, created, long) = let s = some_left f is in (s.0, (f, s.1, created, long))

    pub left_has : (len : ℕ) → least ≤ name.wal → HasLength files (segment side name) len → HasLength (files_from least files) (segment side name) len
    left_has len low (f, is, created, long) = (f, left low ∙ is, created, long)

  -- a listing of which the segments of lesser WALs are left out
  pub listing_left : (side : Side) (names kept : List Listed) → IsListing files side names → ((item : Listed) → Contains kept item → Contains names item)
      → ((item : Listed) → Contains kept item → least ≤ item.name.wal)
      → ((item : Listed) → Contains names item → least ≤ item.name.wal → Contains kept item) → IsListing (files_from least files) side kept
  listing_left side names kept is within from all item = (
    λ at. let h = (is item).0 (within item at) in (h.0, left_has side item.name item.len (from item at) h.1),
    λ h. let l = has_left side item.name item.len h.1 in all item ((is item).1 (h.0, l.1)) l.0,
  )

  -- ---- a row of what is left

  module _ (row : List Found) (is : IsRowOf (files_from least files) row) where
    pub row_there : (f : Found) → Contains row f → HasLength files (place_listed f) f.len
    row_there f at = (has_left f.side f.name f.len ((is f).0 at).1).1

    pub row_low : (f : Found) → Contains row f → least ≤ f.name.wal
    row_low f at = (has_left f.side f.name f.len ((is f).0 at).1).0

  stored_left : (f : Found) → least ≤ f.name.wal → stored_in (files_from least files) f ≡ stored_in files f
  stored_left f low = ap (λ (o : Option File). stored o) (left f.side f.name low)
    where
      stored : Option File → Stored
      stored o = record { side = f.side; index = f.name.index; content = bytes_or_none (as_read (place_listed f) o) }

  all_stored_left : (items : List Found) → ((f : Found) → Contains items f → least ≤ f.name.wal)
      → map (stored_in (files_from least files)) items ≡ map (stored_in files) items
  all_stored_left [] low = refl
  all_stored_left (f ∷ items) low = ap (λ (s : Stored). s ∷ map (stored_in (files_from least files)) items) (stored_left f (low f (within_head f items)))
      ∙ ap (λ (l : List Stored). stored_in files f ∷ l) (all_stored_left items (λ g at. low g (within_tail f items g at)))

  -- its WALs have the bytes that they have in all files
  pub wals_left : (wals : List FoundWal) (row : List Found) → Groups wals row [] → ((f : Found) → Contains row f → least ≤ f.name.wal)
      → wals_in (files_from least files) wals ≡ wals_in files wals
  unfolding Groups
  wals_left [] row g low = refl
  wals_left (wal ∷ wals) row (later, group, rest) low =
      ap (λ (segments : List Stored). record { number = wal.number; segments = segments } ∷ wals_in (files_from least files) wals)
      (all_stored_left wal.segments.items (λ f at. low f (subst (λ (r : List Found). Contains r f) (sym group.cut) (Contains-append_left wal.segments.items later f at))))
      ∙ ap (λ (l : List Wal). wal_in files wal ∷ l)
      (wals_left wals later rest (λ f at. low f (subst (λ (r : List Found). Contains r f) (sym group.cut) (Contains-append_right wal.segments.items later f at))))
