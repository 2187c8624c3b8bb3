-- The store of directories with tables (docs/formats/table.md, "The store").
use Rattle.batch_repr.specs.declared.limits.TheConstants.{NUMBER_FIRST}
use Rattle.std.specs.Prelude.{◌≡◌, ◌⊎◌, ℕ, suc, ◌+◌, ◌<◌, ◌≤◌, List, [], length, Option, Some, None}
use Rattle.batch_repr.specs.declared.batch.Batch.{Batch}
use Rattle.batch_repr.specs.Batches.{end_after}
use Rattle.disk_face.specs.View.{Dirs, table}
use Rattle.disk_face.specs.Listing.{IsTableNumber}
use Rattle.table_text.specs.Tables.{Table, IsTable, IsWhole, ReadsTable, batches_of}
use Rattle.wal_recovery.specs.declared.reports.Mode.{Mode}
use Rattle.wal_recovery.specs.declared.fault.RecoverFault.{RecoverFault}
use Rattle.wal_recovery.specs.Listing.{Stored, StandsIn, from_wal}
use Rattle.wal_recovery.specs.Answers.{RecoversByFrom, IsRefusedByFrom}
use Rattle.wal_recovery.specs.Base.{IsBaseOf}
use Rattle.flush_table.specs.declared.reports.TableSeen.{TableSeen}

-- The directories have a whole table of that number.
abbrev pub HasWholeTable : Dirs → ℕ → Type 0
HasWholeTable dirs upto = IsTableNumber upto × ((bytes : List ℕ) × (dirs (table upto) ≡ Some bytes) × IsWhole upto bytes)

-- The table stands in the directories, whole, and is the one of the greatest number that does.
pub record UsesTable (dirs : Dirs) (upto : ℕ) (used : Table) : Type 0 where
  pub named : IsTableNumber upto
  pub bytes : List ℕ
  pub there : dirs (table upto) ≡ Some bytes
  pub reads : ReadsTable upto bytes used
  pub greatest : (other : ℕ) → HasWholeTable dirs other → other ≤ upto

-- the table that a store begins with: its number, and what it holds
pub record Used : Type 0 where
  pub upto : ℕ
  pub table : Table

-- The store begins with this table, or with none where no table is whole.
abbrev pub IsUsed : Dirs → Option Used → Type 0
IsUsed dirs None = (upto : ℕ) → HasWholeTable dirs upto → ⊥
IsUsed dirs (Some used) = UsesTable dirs used.upto used.table

-- the WAL from which on segments are read
abbrev pub wal_from : Option Used → ℕ
wal_from None = 0
wal_from (Some used) = used.upto + 1

-- the number that they go on from
abbrev pub first_from : Option Used → ℕ
first_from None = NUMBER_FIRST
first_from (Some used) = used.table.next

-- the batches that stand before theirs
abbrev pub base_of : Option Used → List Batch
base_of None = []
base_of (Some used) = batches_of used.table

-- the store of the directories: the batches of the used table, and those that the segments above it recover to
pub record StoreOf (mode : Mode) (dirs : Dirs) (used : Option Used) (batches : List Batch) : Type 0 where
  pub is_used : IsUsed dirs used
  pub recovers : RecoversByFrom mode (first_from used) (base_of used) (from_wal (wal_from used) dirs) batches

-- the number that comes next in a store
abbrev pub next_in : Option Used → List Batch → ℕ
next_in used batches = end_after (first_from used) batches

-- The directories have no store, for this fault: the segments above the used table are refused.
pub record IsStoreRefused (mode : Mode) (dirs : Dirs) (fault : RecoverFault) : Type 0 where
  pub used : Option Used
  pub is_used : IsUsed dirs used
  pub refused : IsRefusedByFrom mode (first_from used) (base_of used) (from_wal (wal_from used) dirs) fault

-- 1 more than the greatest number of a WAL that has a segment in the directories, and of a table in them, whole or not; 1 where
-- there is neither
pub record IsNextWalOfStore (dirs : Dirs) (next : ℕ) : Type 0 where
  pub above : (number : ℕ) (stored : Stored) → StandsIn dirs number stored → number < next
  pub past : (upto : ℕ) (bytes : List ℕ) → IsTableNumber upto → dirs (table upto) ≡ Some bytes → upto < next
  pub least : ((next ≡ 1) × ((number : ℕ) (stored : Stored) → StandsIn dirs number stored → ⊥)
      × ((upto : ℕ) (bytes : List ℕ) → IsTableNumber upto → dirs (table upto) ≡ Some bytes → ⊥))
      ⊎ (((number : ℕ) × (stored : Stored) × StandsIn dirs number stored × (next ≡ suc number))
      ⊎ ((upto : ℕ) × (bytes : List ℕ) × IsTableNumber upto × (dirs (table upto) ≡ Some bytes) × (next ≡ suc upto)))

-- The batches are numbered one after another, from the first number of all or above, and end before this number.
pub record IsNumberedBefore (next : ℕ) (batches : List Batch) : Type 0 where
  pub base : IsBaseOf next batches
  pub least : NUMBER_FIRST ≤ base.from

-- ---- what is told of the used table

-- The number of keys and the number that comes next are those of the table.
pub record IsSeenOf (table : Table) (seen : TableSeen) : Type 0 where
  pub keys_is : seen.keys ≡ length table.live
  pub next_is : seen.next ≡ table.next

-- What was seen tells of the used table: of none where none is used.
abbrev pub TellsUsed : Option Used → Option TableSeen → Type 0
TellsUsed None None = Unit {0}
TellsUsed None (Some seen) = ⊥
TellsUsed (Some used) None = ⊥
TellsUsed (Some used) (Some seen) = (seen.upto ≡ used.upto) × IsSeenOf used.table seen

-- the WAL from which on segments are read, by the table that was seen
abbrev pub wal_after : Option TableSeen → ℕ
wal_after None = 0
wal_after (Some seen) = seen.upto + 1

-- the number below which tables are not read
abbrev pub table_from : Option TableSeen → ℕ
table_from None = 0
table_from (Some seen) = seen.upto

-- the number that they go on from
abbrev pub number_after : Option TableSeen → ℕ
number_after None = NUMBER_FIRST
number_after (Some seen) = seen.next

-- The batches are those of a table of which what was seen tells, by a number that a table may have: none where no table was seen.
abbrev pub IsBaseSeen : Option TableSeen → List Batch → Type 0
IsBaseSeen None base = base ≡ []
IsBaseSeen (Some seen) base = IsTableNumber seen.upto × ((table : Table) × IsTable table × IsSeenOf table seen × (base ≡ batches_of table))
