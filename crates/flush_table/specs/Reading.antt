-- How the table is found that a store begins with (docs/formats/table.md, "The store").
use Rattle.batch_repr.specs.declared.limits.TheConstants.{NUMBER_FIRST}
use Rattle.std.specs.Prelude.{◌≡◌, ◌⊎◌, ℕ, suc, ◌+◌, ◌<◌, ◌≤◌, Bool, List, [], ◌∷◌, length, take, Contains, Option, Some, None, Result, Ok, Err, IsTrue}
use Rattle.disk_face.specs.declared.TableListed.{TableListed}
use Rattle.disk_face.specs.View.{Dirs, DiskView, table, files, tables_were_listed, Makes}
use Rattle.disk_face.specs.Image.{directories}
use Rattle.disk_face.specs.Listing.{IsTableNumber, HasTable, IsTableListing}
use Rattle.table_text.specs.declared.reading.TableRead.{TableRead}
use Rattle.table_text.specs.Tables.{Table, IsTable}
use Rattle.table_text.specs.Reading.{TellsOfTable, IsReadAs}
use Rattle.wal_base.specs.Faults.{Rose}
use Rattle.disk_face.specs.declared.Side.TheVariants.{Primary}
use Rattle.wal_recovery.specs.declared.fault.RecoverFault.{RecoverFault}
use Rattle.wal_recovery.specs.declared.reports.Start.{Start}
use Rattle.flush_table.specs.declared.reports.TableSeen.{TableSeen}
use Rattle.flush_table.specs.declared.tables.UsedTable.{UsedTable}
use Rattle.flush_table.specs.Stores.{HasWholeTable, UsesTable, IsUsed}
use Rattle.flush_table.specs.Asked.{ReadsTables}

-- what a listing of the tables gave: nothing where it failed
abbrev pub tables_given : Result (List TableListed) RecoverFault → List TableListed
tables_given (Ok tables) = tables
tables_given (Err fault) = []

-- The tables were listed once, and this was given.
abbrev pub ListsTablesOnce : Result (List TableListed) RecoverFault → DiskView → DiskView → Type 0
ListsTablesOnce given old new = Makes (tables_were_listed (tables_given given) ∷ []) old new

-- The list is the listing of the tables of the disk.
abbrev pub AreTablesOf : Bool → DiskView → List TableListed → Type 0
AreTablesOf tells v tables = IsTrue tells → IsTableListing (files v) tables

-- The count of faults of the primary side rose.
abbrev pub PrimaryRose : DiskView → DiskView → Type 0
PrimaryRose old new = Rose (old.faults Primary) (new.faults Primary)

-- ---- one table

-- A buffer of so many bytes is no longer than the table: then only the table is read.
abbrev pub ReadsTableIfWithin : ℕ → TableListed → DiskView → DiskView → Type 0
ReadsTableIfWithin len listed old new = len ≤ listed.len → ReadsTables (listed ∷ []) old new

-- The bytes are those of the table, where that has this length.
abbrev pub AreTableBytes : Bool → DiskView → ℕ → ℕ → List ℕ → Type 0
AreTableBytes tells v upto len bytes = IsTrue tells → HasTable (files v) upto len → directories v (table upto) ≡ Some bytes

-- So many bytes of the buffer are those of the table, where that is as long as the buffer.
abbrev pub FillsByTable : Bool → DiskView → ℕ → List ℕ → List ℕ → ℕ → Type 0
FillsByTable tells v upto old new count = AreTableBytes tells v upto (length old) (take count new)

-- The table of that number in the directories reads as one of which this tells.
pub record ReadsAt (dirs : Dirs) (upto : ℕ) (read : TableRead) : Type 0 where
  pub bytes : List ℕ
  pub there : dirs (table upto) ≡ Some bytes
  pub is : IsReadAs upto bytes read

-- what the table of that number reads as, or that it is not whole
abbrev pub TellsTableAt : Dirs → ℕ → Option TableRead → Type 0
TellsTableAt dirs upto None = HasWholeTable dirs upto → ⊥
TellsTableAt dirs upto (Some read) = ReadsAt dirs upto read

-- The same of a listed table of a disk.
abbrev pub TellsListed : Bool → DiskView → TableListed → Option TableRead → Type 0
TellsListed tells v listed found = IsTrue tells → HasTable (files v) listed.upto listed.len → TellsTableAt (directories v) listed.upto found

-- It tells of a table, whichever.
abbrev pub TellsOfSome : TableRead → Type 0
TellsOfSome read = (table : Table) × IsTable table × TellsOfTable table read

-- ---- the table that is used

-- No table of the list from this place on is whole in the directories.
abbrev pub NoneWhole : Dirs → List TableListed → Type 0
NoneWhole dirs tables = (item : TableListed) → Contains tables item → HasWholeTable dirs item.upto → ⊥

-- The directories use this table, of which this tells.
pub record UsesRead (dirs : Dirs) (found : UsedTable) : Type 0 where
  pub table : Table
  pub uses : UsesTable dirs found.upto table
  pub tells : TellsOfTable table found.read

-- the table that the directories use, or that they use none
abbrev pub FindsUsed : Dirs → Option UsedTable → Type 0
FindsUsed dirs None = IsUsed dirs None
FindsUsed dirs (Some found) = UsesRead dirs found

-- What was found is what the directories use, where the list is that of the disk.
abbrev pub IsUsedOf : Bool → DiskView → List TableListed → Option UsedTable → Type 0
IsUsedOf tells v tables found = IsTrue tells → IsTableListing (files v) tables → FindsUsed (directories v) found

-- the least number that is read: of the table that was found
abbrev pub least_read : Option UsedTable → ℕ
least_read None = 0
least_read (Some found) = found.upto

abbrev pub least_read_of : Result (Option UsedTable) RecoverFault → ℕ
least_read_of (Ok found) = least_read found
least_read_of (Err fault) = 0

-- It has the number of a table, and tells of one.
abbrev pub IsSomeUsed : UsedTable → Type 0
IsSomeUsed found = IsTableNumber found.upto × TellsOfSome found.read

-- ---- where recovery begins

abbrev pub start_with : Option UsedTable → Start
start_with None = record { wal = 0; number = NUMBER_FIRST; base = [] }
start_with (Some found) = record { wal = found.upto + 1; number = found.read.next; base = found.read.batches }

abbrev pub seen_with : Option UsedTable → Option TableSeen
seen_with None = None
seen_with (Some found) = Some (record { upto = found.upto; keys = found.read.keys; next = found.read.next })

-- The number is 1 more than that of the greatest table of the list, and 1 where there is none.
pub record IsAfterTables (tables : List TableListed) (next : ℕ) : Type 0 where
  pub above : (item : TableListed) → Contains tables item → item.upto < next
  pub least : ((next ≡ 1) × (tables ≡ [])) ⊎ ((item : TableListed) × Contains tables item × (next ≡ suc item.upto))
