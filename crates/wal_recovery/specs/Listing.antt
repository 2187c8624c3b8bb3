-- The two directories as rows of segments: the WALs in ascending order, each with its segments by index (docs/formats/journal.md, "Recovery").
use Rattle.std.specs.Prelude.{◌≡◌, ◌≢◌, ◌↔◌, ◌⊎◌, ℕ, suc, ◌≤◌, ◌<◌, nat_lt, if◌then◌else◌, List, [], ◌∷◌, Some, None, Contains}
use Rattle.disk_face.specs.declared.Side.{Side}
use Rattle.disk_face.specs.declared.Side.TheVariants.{Primary, Secondary}
use Rattle.disk_face.specs.declared.SegName.{SegName}
use Rattle.disk_face.specs.declared.FilePlace.TheVariants.{Segment, Table}
use Rattle.disk_face.specs.View.{Place, segment, table, Dirs}
use Rattle.disk_face.specs.Listing.{IsSegmentName}

-- the directories without the segments of WALs below this one
abbrev pub from_wal : ℕ → Dirs → Dirs
from_wal least dirs (Segment side name) = if nat_lt name.wal least then None else dirs (segment side name)
from_wal least dirs (Table upto) = dirs (table upto)

-- a segment of a WAL: the directory in which it stands, its index, and its bytes
pub record Stored : Type 0 where
  pub side : Side
  pub index : ℕ
  pub content : List ℕ

pub record Wal : Type 0 where
  pub number : ℕ
  pub segments : List Stored

abbrev pub name_in : ℕ → ℕ → SegName
name_in wal index = record { wal = wal; index = index }

abbrev pub place_in : ℕ → Side → ℕ → Place
place_in wal side index = segment side (name_in wal index)

-- Their indexes ascend, from this one or above.
unfoldable pub AreByIndex : ℕ → List Stored → Type 0
AreByIndex low [] = Unit {0}
AreByIndex low (stored ∷ segments) = (low ≤ stored.index) × AreByIndex (suc stored.index) segments

-- Their numbers ascend, from this one or above, and each has a segment.
unfoldable pub AreByNumber : ℕ → List Wal → Type 0
AreByNumber low [] = Unit {0}
AreByNumber low (wal ∷ wals) = (low ≤ wal.number) × (wal.segments ≢ []) × AreByIndex 0 wal.segments × AreByNumber (suc wal.number) wals

-- The segment stands among those of a WAL.
abbrev pub IsOf : List Wal → ℕ → Stored → Type 0
IsOf wals number stored = (wal : Wal) × Contains wals wal × (wal.number ≡ number) × Contains wal.segments stored

-- The file is a segment of the directories: its name is one of a segment, and it has these bytes.
abbrev pub StandsIn : Dirs → ℕ → Stored → Type 0
StandsIn dirs number stored = IsSegmentName (name_in number stored.index) × (dirs (place_in number stored.side stored.index) ≡ Some stored.content)

-- These are the segments of the directories. No two of them have one WAL and index.
pub record IsListingOf (dirs : Dirs) (wals : List Wal) : Type 0 where
  pub order : AreByNumber 0 wals
  pub same : (number : ℕ) (stored : Stored) → IsOf wals number stored ↔ StandsIn dirs number stored

-- One WAL and index stand on both sides.
abbrev pub IsTwice : Dirs → ℕ → ℕ → Type 0
IsTwice dirs wal index =
    IsSegmentName (name_in wal index) × (one : List ℕ) × (two : List ℕ) × (dirs (place_in wal Primary index) ≡ Some one)
    × (dirs (place_in wal Secondary index) ≡ Some two)

-- They are the least that do.
pub record IsDuplicate (dirs : Dirs) (wal index : ℕ) : Type 0 where
  pub twice : IsTwice dirs wal index
  pub least : (w i : ℕ) → IsTwice dirs w i → (wal < w) ⊎ ((wal ≡ w) × (index ≤ i))

-- 1 more than the greatest number of a WAL that has a segment in the directories, and 1 where none has
pub record IsNextWal (dirs : Dirs) (next : ℕ) : Type 0 where
  pub above : (number : ℕ) (stored : Stored) → StandsIn dirs number stored → number < next
  pub least : ((next ≡ 1) × ((number : ℕ) (stored : Stored) → StandsIn dirs number stored → ⊥))
      ⊎ ((number : ℕ) × (stored : Stored) × StandsIn dirs number stored × (next ≡ suc number))
