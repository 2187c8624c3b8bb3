-- What a row of calls asks of the tables of a disk in all (docs/formats/disk.md, "Tables").
use Rattle.std.specs.Prelude.{◌≡◌, ℕ, ◌≤◌, ◌<◌, ◌==◌, if◌then◌else◌, List, [], ◌∷◌, ◌++◌, sum_by}
use Rattle.std.specs.List.{AllByRecursion}
use Rattle.disk_face.specs.declared.Side.{Side}
use Rattle.disk_face.specs.declared.SegName.{SegName}
use Rattle.disk_face.specs.declared.Listed.{Listed}
use Rattle.disk_face.specs.declared.TableListed.{TableListed}
use Rattle.disk_face.specs.View.{Call, was_listed, was_read, tables_were_listed, table_was_read, table_was_put, was_removed, was_started, was_polled, DiskView, Makes}
use Rattle.disk_face.specs.Asked.{listings, bytes_asked, ListsOnce, ReadsAtMostListed, creations}
use Rattle.wal_recovery.specs.Asking.{both_listed}

-- 1 for a listing of the tables
abbrev pub lists_tables_in : Call → ℕ
lists_tables_in (was_listed side names) = 0
lists_tables_in (was_read side name len) = 0
lists_tables_in (tables_were_listed tables) = 1
lists_tables_in (table_was_read upto len) = 0
lists_tables_in (table_was_put upto bytes ok) = 0
lists_tables_in (was_removed place ok) = 0
lists_tables_in (was_started id flight) = 0
lists_tables_in (was_polled id answer) = 0

-- how often the tables were listed
abbrev pub table_listings : List Call → ℕ
table_listings = sum_by lists_tables_in

-- how many bytes of the table a call asks for
abbrev pub table_bytes_in : ℕ → Call → ℕ
table_bytes_in upto (was_listed side names) = 0
table_bytes_in upto (was_read side name len) = 0
table_bytes_in upto (tables_were_listed tables) = 0
table_bytes_in upto (table_was_read u len) = if upto == u then len else 0
table_bytes_in upto (table_was_put u bytes ok) = 0
table_bytes_in upto (was_removed place ok) = 0
table_bytes_in upto (was_started id flight) = 0
table_bytes_in upto (was_polled id answer) = 0

-- how many bytes of a table were asked for
abbrev pub table_bytes_asked : ℕ → List Call → ℕ
table_bytes_asked upto = sum_by (table_bytes_in upto)

-- the length that a listed table has, where it is the one of this number
abbrev pub length_if : ℕ → TableListed → ℕ
length_if upto item = if upto == item.upto then item.len else 0

-- the length that a listing gives the table: 0 where it is not in the list
abbrev pub table_length_among : ℕ → List TableListed → ℕ
table_length_among upto = sum_by (length_if upto)

-- the length that a call gives the table
abbrev pub table_length_in : ℕ → Call → ℕ
table_length_in upto (was_listed side names) = 0
table_length_in upto (was_read side name len) = 0
table_length_in upto (tables_were_listed tables) = table_length_among upto tables
table_length_in upto (table_was_read u len) = 0
table_length_in upto (table_was_put u bytes ok) = 0
table_length_in upto (was_removed place ok) = 0
table_length_in upto (was_started id flight) = 0
table_length_in upto (was_polled id answer) = 0

-- the length that the listings gave a table, each counted: 0 where none had it
abbrev pub table_length_listed : ℕ → List Call → ℕ
table_length_listed upto = sum_by (table_length_in upto)

-- of each table no more bytes were asked for than the listings gave it
abbrev pub ReadsTablesAtMostListed : List Call → Type 0
ReadsTablesAtMostListed calls = (upto : ℕ) → table_bytes_asked upto calls ≤ table_length_listed upto calls

-- 1 for a put of a table
abbrev pub puts_in : Call → ℕ
puts_in (was_listed side names) = 0
puts_in (was_read side name len) = 0
puts_in (tables_were_listed tables) = 0
puts_in (table_was_read upto len) = 0
puts_in (table_was_put upto bytes ok) = 1
puts_in (was_removed place ok) = 0
puts_in (was_started id flight) = 0
puts_in (was_polled id answer) = 0

-- how many puts of a table were called
abbrev pub table_puts : List Call → ℕ
table_puts = sum_by puts_in

-- 1 for a removal of a file
abbrev pub removes_in : Call → ℕ
removes_in (was_listed side names) = 0
removes_in (was_read side name len) = 0
removes_in (tables_were_listed tables) = 0
removes_in (table_was_read upto len) = 0
removes_in (table_was_put upto bytes ok) = 0
removes_in (was_removed place ok) = 1
removes_in (was_started id flight) = 0
removes_in (was_polled id answer) = 0

-- how many removals were called
abbrev pub removals : List Call → ℕ
removals = sum_by removes_in

-- In the calls made since, the tables are listed at most once, and each side is; of each segment and of each table no more bytes are
-- asked for than it was listed with; and no segment is created, no table is put, and no file is removed.
pub record AsksOfStore (old new : DiskView) : Type 0 where
  pub made : List Call
  pub makes : Makes made old new
  pub tables_once : table_listings made ≤ 1
  pub sides_once : ListsOnce made
  pub segments : ReadsAtMostListed made
  pub tables : ReadsTablesAtMostListed made
  pub creates : creations made ≡ 0
  pub puts : table_puts made ≡ 0
  pub removes : removals made ≡ 0

-- a listing of the tables, one of the primary side and then one of the secondary side, the last one first
abbrev pub store_listed : List TableListed → List Listed → List Listed → List Call
store_listed tables ones others = both_listed ones others ++ tables_were_listed tables ∷ []

-- Of the calls made since, the first is a listing of the tables, the second one of the primary side, and the third one of the
-- secondary side, with these answers; and no later one lists tables or a side.
pub record ListsAllInTurn (tables : List TableListed) (ones others : List Listed) (old new : DiskView) : Type 0 where
  pub later : List Call
  pub makes : Makes (later ++ store_listed tables ones others) old new
  pub no_more_tables : table_listings later ≡ 0
  pub no_more_sides : (side : Side) → listings side later ≡ 0

-- In the calls made since, no byte is asked for of a segment below this WAL, nor of a table below this number.
pub record ReadsNoneBelow (wal upto : ℕ) (old new : DiskView) : Type 0 where
  pub made : List Call
  pub makes : Makes made old new
  pub segments : (side : Side) (name : SegName) → name.wal < wal → bytes_asked side name made ≡ 0
  pub tables : (other : ℕ) → other < upto → table_bytes_asked other made ≡ 0

-- ---- on the way

-- the call reads a table
abbrev pub IsTableRead : Call → Type 0
IsTableRead (was_listed side names) = ⊥
IsTableRead (was_read side name len) = ⊥
IsTableRead (tables_were_listed tables) = ⊥
IsTableRead (table_was_read upto len) = Unit {0}
IsTableRead (table_was_put upto bytes ok) = ⊥
IsTableRead (was_removed place ok) = ⊥
IsTableRead (was_started id flight) = ⊥
IsTableRead (was_polled id answer) = ⊥

-- Each call is a read of a table, and of each table no more bytes are asked for than it is listed with.
pub record AreReadsOf (tables : List TableListed) (calls : List Call) : Type 0 where
  pub only : AllByRecursion IsTableRead calls
  pub asked : (upto : ℕ) → table_bytes_asked upto calls ≤ table_length_among upto tables

-- The calls made since are such reads.
pub record ReadsTables (tables : List TableListed) (old new : DiskView) : Type 0 where
  pub made : List Call
  pub makes : Makes made old new
  pub reads : AreReadsOf tables made

-- They are, and no byte is asked for of a table below this number.
pub record ReadsTablesFrom (least : ℕ) (tables : List TableListed) (old new : DiskView) : Type 0 where
  pub made : List Call
  pub makes : Makes made old new
  pub reads : AreReadsOf tables made
  pub below : (upto : ℕ) → upto < least → table_bytes_asked upto made ≡ 0

-- The calls made since are the listings with these answers, and then such reads.
pub record ListsThenReads (least : ℕ) (tables : List TableListed) (ones others : List Listed) (old new : DiskView) : Type 0 where
  pub later : List Call
  pub makes : Makes (later ++ store_listed tables ones others) old new
  pub reads : AreReadsOf tables later
  pub below : (upto : ℕ) → upto < least → table_bytes_asked upto later ≡ 0
