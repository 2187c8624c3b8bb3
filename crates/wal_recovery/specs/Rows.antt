-- Rows of listed segments, as recovery goes over them (docs/formats/journal.md, "Recovery").
use Rattle.std.specs.Prelude.{◌≡◌, ◌≢◌, ◌↔◌, ◌⊎◌, ℕ, nat_lt, if◌then◌else◌, List, [], ◌∷◌, ◌++◌, map, All, Contains, Option, Some, None}
use Rattle.disk_face.specs.declared.Side.TheVariants.{Primary, Secondary}
use Rattle.disk_face.specs.declared.SegName.{SegName}
use Rattle.disk_face.specs.declared.Listed.{Listed}
use Rattle.disk_face.specs.declared.FilePlace.TheVariants.{Segment, Table}
use Rattle.disk_face.specs.View.{Place, segment, table, Files, Dirs}
use Rattle.disk_face.specs.Image.{as_read}
use Rattle.disk_face.specs.Listing.{IsBefore, IsSegmentName, HasLength}
use Rattle.wal_recovery.specs.declared.fault.RecoverFault.{RecoverFault}
use Rattle.wal_recovery.specs.declared.fault.RecoverFault.TheVariants as faults
use Rattle.wal_recovery.specs.declared.listing.Found.{Found}
use Rattle.wal_recovery.specs.declared.listing.Next.{Next}
use Rattle.wal_recovery.specs.declared.listing.Next.TheVariants as nexts
use Rattle.wal_recovery.specs.declared.wals.FoundWal.{FoundWal}
use Rattle.wal_recovery.specs.Listing.{Stored, Wal, IsDuplicate}

-- the files without the segments of WALs below this one
abbrev pub files_from : ℕ → Files → Files
files_from least files (Segment side name) = if nat_lt name.wal least then None else files (segment side name)
files_from least files (Table upto) = files (table upto)

-- where a listed segment stands
abbrev pub place_listed : Found → Place
place_listed f = segment f.side f.name

-- a listed segment as its side lists it
abbrev pub item_of : Found → Listed
item_of f = record { name = f.name; len = f.len }

-- Each segment stands before all later ones.
unfoldable pub Ascends : List Found → Type 0
Ascends [] = Unit {0}
Ascends (f ∷ row) = ((g : Found) → Contains row g → IsBefore f.name g.name) × Ascends row

-- The row has the created segments of both sides, each with its length, and nothing else.
abbrev pub IsRowOf : Files → List Found → Type 0
IsRowOf files row = (f : Found) → Contains row f ↔ (IsSegmentName f.name × HasLength files (place_listed f) f.len)

-- The name stands before the first of the list.
abbrev pub IsBeforeHead : SegName → List Listed → Type 0
IsBeforeHead name [] = Unit {0}
IsBeforeHead name (item ∷ items) = IsBefore name item.name

-- The segment is the first of one side, before the first of the other. These are left.
abbrev pub Takes : Found → List Listed → List Listed → List Listed → List Listed → Type 0
Takes f ones others ones_left others_left =
    ((f.side ≡ Primary) × (ones ≡ item_of f ∷ ones_left) × (others ≡ others_left) × IsBeforeHead f.name others_left)
    ⊎ ((f.side ≡ Secondary) × (others ≡ item_of f ∷ others_left) × (ones ≡ ones_left) × IsBeforeHead f.name ones_left)

-- Both sides begin with a segment of this name.
abbrev pub BothBegin : SegName → List Listed → List Listed → Type 0
BothBegin name (one ∷ ones) (other ∷ others) = (one.name ≡ name) × (other.name ≡ name)
BothBegin name ones others = ⊥

-- what comes next of what is left of both sides
abbrev pub IsNext : Next → List Listed → List Listed → Type 0
IsNext nexts.Nothing ones others = (ones ≡ []) × (others ≡ [])
IsNext (nexts.Twice name) ones others = BothBegin name ones others
IsNext (nexts.Segment f primary secondary) ones others = Takes f ones others primary.now secondary.now

-- The row takes its segments from both sides, one after another, and leaves these.
unfoldable pub Weaves : List Found → List Listed → List Listed → List Listed → List Listed → Type 0
Weaves [] ones others ones_left others_left = (ones ≡ ones_left) × (others ≡ others_left)
Weaves (f ∷ row) ones others ones_left others_left = (a : List Listed) × (b : List Listed) × Takes f ones others a b × Weaves row a b ones_left others_left

-- After some segments, both sides go on with one of this name.
abbrev pub Meets : SegName → List Listed → List Listed → Type 0
Meets name ones others = (row : List Found) × (a : List Listed) × (b : List Listed) × Weaves row ones others a b × BothBegin name a b

-- This is the least name that both sides have.
abbrev pub RefusesTwice : Dirs → RecoverFault → Type 0
RefusesTwice dirs (faults.DuplicateSegment wal index) = IsDuplicate dirs wal index
RefusesTwice dirs fault = ⊥

-- What is refused of two listings: a name that both have. Out of memory may take its place.
abbrev pub MeetsOrMemory : List Listed → List Listed → RecoverFault → Type 0
MeetsOrMemory ones others (faults.DuplicateSegment wal index) = Meets (record { wal = wal; index = index }) ones others
MeetsOrMemory ones others faults.NoMemory = Unit {0}
MeetsOrMemory ones others fault = ⊥

-- ---- WAL by WAL

-- The first of the segments, if any, is of another WAL.
abbrev pub BeginsElsewhere : ℕ → List Found → Type 0
BeginsElsewhere number [] = Unit {0}
BeginsElsewhere number (f ∷ row) = f.name.wal ≢ number

-- The segments are those of one WAL, and it has no more of them in the row.
pub record IsGroup (wal : FoundWal) (row later : List Found) : Type 0 where
  pub cut : row ≡ wal.segments.items ++ later
  pub some : wal.segments.items ≢ []
  pub own : All (λ (f : Found). f.name.wal ≡ wal.number) wal.segments.items
  pub other : BeginsElsewhere wal.number later

-- The row is cut into WALs, and these segments are left.
unfoldable pub Groups : List FoundWal → List Found → List Found → Type 0
Groups [] row left = row ≡ left
Groups (wal ∷ wals) row left = (later : List Found) × IsGroup wal row later × Groups wals later left

-- the bytes of a file, where one is
abbrev pub bytes_or_none : Option (List ℕ) → List ℕ
bytes_or_none None = []
bytes_or_none (Some bytes) = bytes

-- the bytes that a read of a place gives
abbrev pub bytes_at : Files → Place → List ℕ
bytes_at files place = bytes_or_none (as_read place (files place))

-- a listed segment with its bytes
abbrev pub stored_in : Files → Found → Stored
stored_in files f = record { side = f.side; index = f.name.index; content = bytes_at files (place_listed f) }

-- a WAL with the bytes of its segments
abbrev pub wal_in : Files → FoundWal → Wal
wal_in files wal = record { number = wal.number; segments = map (stored_in files) wal.segments.items }

abbrev pub wals_in : Files → List FoundWal → List Wal
wals_in files wals = map (wal_in files) wals

-- The fault is the disk's or out of memory.
abbrev pub IsDiskOrMemory : RecoverFault → Type 0
IsDiskOrMemory (faults.Disk side) = Unit {0}
IsDiskOrMemory faults.NoMemory = Unit {0}
IsDiskOrMemory fault = ⊥
