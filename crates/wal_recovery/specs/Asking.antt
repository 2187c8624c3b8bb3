-- What recovery asks of the disk, in listings and in bytes (docs/formats/journal.md, "Recovery").
use Rattle.std.specs.Prelude.{◌≡◌, ℕ, ◌≤◌, ◌&&◌, if◌then◌else◌, List, [], ◌∷◌, ◌++◌, sum_by, Result, Ok, Err}
use Rattle.std.specs.List.{AllByRecursion, flat_map}
use Rattle.disk_face.specs.declared.Side.{Side}
use Rattle.disk_face.specs.declared.Side.TheVariants.{Primary, Secondary}
use Rattle.disk_face.specs.declared.SegName.{SegName}
use Rattle.disk_face.specs.declared.Listed.{Listed}
use Rattle.disk_face.specs.View.{Call, was_listed, was_read, tables_were_listed, table_was_read, table_was_put, was_removed, was_started, was_polled, DiskView, Makes, side_eq}
use Rattle.disk_face.specs.Asked.{name_eq, listings, bytes_asked, length_listed, ListsOnce, ReadsAtMostListed, creations}
use Rattle.wal_recovery.specs.declared.fault.RecoverFault.{RecoverFault}
use Rattle.wal_recovery.specs.declared.listing.Found.{Found}
use Rattle.wal_recovery.specs.declared.wals.FoundWal.{FoundWal}

-- The call lists a side, reads a segment, starts an operation or polls one: it is not on a table, and removes no file.
abbrev pub IsNotOnTable : Call → Type 0
IsNotOnTable (was_listed side names) = Unit {0}
IsNotOnTable (was_read side name len) = Unit {0}
IsNotOnTable (tables_were_listed tables) = ⊥
IsNotOnTable (table_was_read upto len) = ⊥
IsNotOnTable (table_was_put upto bytes ok) = ⊥
IsNotOnTable (was_removed place ok) = ⊥
IsNotOnTable (was_started id flight) = Unit {0}
IsNotOnTable (was_polled id answer) = Unit {0}

-- No call is on a table, and none removes a file.
abbrev pub AreNotOnTables : List Call → Type 0
AreNotOnTables calls = AllByRecursion IsNotOnTable calls

-- In the calls made since, each side is listed at most once, of each segment no more bytes are asked for than it was listed with, and
-- no segment is created.
pub record AsksOnce (old new : DiskView) : Type 0 where
  pub made : List Call
  pub makes : Makes made old new
  pub lists : ListsOnce made
  pub reads : ReadsAtMostListed made
  pub creates : creations made ≡ 0

-- a listing of the primary side, and then one of the secondary side, the last one first
abbrev pub both_listed : List Listed → List Listed → List Call
both_listed ones others = was_listed Secondary others ∷ was_listed Primary ones ∷ []

-- Of the calls made since, the first is a listing of the primary side, the second one of the secondary side, and no later one lists a side.
pub record ListsInTurn (old new : DiskView) : Type 0 where
  pub ones : List Listed
  pub others : List Listed
  pub later : List Call
  pub makes : Makes (later ++ both_listed ones others) old new
  pub no_more : (side : Side) → listings side later ≡ 0

-- In the calls made since, each side is listed at most once, and nothing else is done: no byte of a segment is asked for, none is
-- created, and no call is on a table.
pub record OnlyLists (old new : DiskView) : Type 0 where
  pub made : List Call
  pub makes : Makes made old new
  pub lists : ListsOnce made
  pub asked : (side : Side) (name : SegName) → bytes_asked side name made ≡ 0
  pub creates : creations made ≡ 0
  pub tables : AreNotOnTables made

-- ---- on the way

-- how many bytes the row was listed with of this segment
abbrev pub length_in_row : Side → SegName → List Found → ℕ
length_in_row side name row = sum_by (λ (f : Found). if side_eq side f.side && name_eq name f.name then f.len else 0) row

-- The calls made since list no side, ask for no more bytes of each segment than the row was listed with, create none, and are not on
-- tables.
pub record ReadsOnly (row : List Found) (old new : DiskView) : Type 0 where
  pub made : List Call
  pub makes : Makes made old new
  pub lists : (side : Side) → listings side made ≡ 0
  pub listed : (side : Side) (name : SegName) → length_listed side name made ≡ 0
  pub asked : (side : Side) (name : SegName) → bytes_asked side name made ≤ length_in_row side name row
  pub creates : creations made ≡ 0
  pub tables : AreNotOnTables made

-- what a listing gave: nothing where it failed
abbrev pub names_given : Result (List Listed) RecoverFault → List Listed
names_given (Ok names) = names
names_given (Err fault) = []

-- the segments of WALs, one WAL after another
abbrev pub found_in : List FoundWal → List Found
found_in wals = flat_map (λ (wal : FoundWal). wal.segments.items) wals
