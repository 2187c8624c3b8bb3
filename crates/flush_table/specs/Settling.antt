-- The table that covers the directories, and what happens until it stands and what it covers is removed (docs/formats/table.md, "Flushing").
use Rattle.std.specs.Prelude.{◌≡◌, ◌≢◌, ◌⊎◌, ℕ, ◌+◌, ◌<◌, ◌≤◌, Bool, List, [], length, Contains, Option, Some, None, Result, Ok, Err, IsTrue}
use Rattle.batch_repr.specs.declared.batch.Batch.{Batch}
use Rattle.disk_face.specs.declared.Listed.{Listed}
use Rattle.disk_face.specs.declared.TableListed.{TableListed}
use Rattle.disk_face.specs.View.{Place, table, Files, DiskView, files, AtEachMoment, Makes}
use Rattle.disk_face.specs.Calls.{SameDisk}
use Rattle.disk_face.specs.Tables.{whole}
use Rattle.table_text.specs.Tables.{Table, table_text}
use Rattle.wal_recovery.specs.declared.fault.RecoverFault.{RecoverFault}
use Rattle.flush_table.specs.declared.reports.StoreRead.{StoreRead}
use Rattle.flush_table.specs.declared.reports.TableSeen.{TableSeen}
use Rattle.flush_table.specs.declared.flushing.Flushed.{Flushed}
use Rattle.flush_table.specs.Stores.{wal_after}
use Rattle.flush_table.specs.Promises.{sides_of}
use Rattle.flush_table.specs.Putting.{IsTableOf, IsPutting, HasPut, PutsOnce}
use Rattle.flush_table.specs.Removing.{IsCoveredBy, IsThinned, OnlyRemoves, covered_places}

-- ---- the greatest WAL

-- No listed segment is of a WAL above this one.
abbrev pub AreUpTo : ℕ → List Listed → Type 0
AreUpTo wal names = (item : Listed) → Contains names item → item.name.wal ≤ wal

-- The WAL is that of a listed segment, and none is above it.
pub record IsGreatestOf (names : List Listed) (wal : ℕ) : Type 0 where
  pub item : Listed
  pub listed : Contains names item
  pub wal_is : item.name.wal ≡ wal
  pub greatest : AreUpTo wal names

-- It is the greatest WAL of the names, and nothing where there is no name.
abbrev pub IsLastWalOf : List Listed → Option ℕ → Type 0
IsLastWalOf names None = names ≡ []
IsLastWalOf names (Some wal) = IsGreatestOf names wal

-- ---- the table that covers it

-- A table of this WAL has to be put: it is above the one that was seen.
abbrev pub IsAboveSeen : Option TableSeen → ℕ → Type 0
IsAboveSeen seen wal = wal_after seen ≤ wal

-- The one that was seen covers this WAL.
abbrev pub CoversAsSeen : Option TableSeen → ℕ → TableSeen → Type 0
CoversAsSeen seen wal used = (seen ≡ Some used) × (wal ≤ used.upto)

-- The table of that WAL was put, and this is told of it; or the one that was seen covers that WAL, and nothing was done.
abbrev pub HasSettled : Bool → Option TableSeen → ℕ → ℕ → List Batch → DiskView → DiskView → TableSeen → Type 0
HasSettled tells seen wal next batches old new used =
    (IsAboveSeen seen wal × HasPut tells wal next batches old new used) ⊎ (CoversAsSeen seen wal used × SameDisk old new)

-- The table of that WAL is being put, or nothing has changed.
abbrev pub IsSettling : Option TableSeen → ℕ → ℕ → List Batch → Files → Files → Type 0
IsSettling seen wal next batches old now = (IsAboveSeen seen wal × IsPutting wal next batches old now) ⊎ (now ≡ old)

-- It is so at each moment.
abbrev pub SettlesThroughout : Bool → Option TableSeen → ℕ → ℕ → List Batch → DiskView → DiskView → Type 0
SettlesThroughout tells seen wal next batches old new = IsTrue tells → AtEachMoment old.clock new (IsSettling seen wal next batches (files old))

-- The calls that settle the table: the put, where it has to be, and else none.
abbrev pub SettlesByCalls : Result TableSeen RecoverFault → Option TableSeen → ℕ → ℕ → List Batch → DiskView → DiskView → Type 0
SettlesByCalls result seen wal next batches old new =
    (IsAboveSeen seen wal × PutsOnce result wal next batches old new) ⊎ ((wal < wal_after seen) × Makes [] old new)

-- ---- what it covers

-- A table of what the batches leave stands whole, and no other file has changed.
pub record HasTableOf (upto next : ℕ) (batches : List Batch) (old now : Files) : Type 0 where
  pub held : Table
  pub of : IsTableOf next batches held
  pub stands : now (table upto) ≡ Some (whole (table_text upto held))
  pub others : (p : Place) → p ≢ table upto → now p ≡ old p

-- The table of this number covers that WAL: it was put there since, or was seen, and nothing has changed.
abbrev pub Covers : Option TableSeen → ℕ → ℕ → List Batch → ℕ → Files → Files → Type 0
Covers seen wal next batches upto old now =
    (IsAboveSeen seen wal × (upto ≡ wal) × HasTableOf wal next batches old now)
    ⊎ ((used : TableSeen) × CoversAsSeen seen wal used × (upto ≡ used.upto) × (now ≡ old))

-- The table stands that covers that WAL, and what it covers is being removed.
pub record IsClearing (seen : Option TableSeen) (wal next : ℕ) (batches : List Batch) (old now : Files) : Type 0 where
  pub upto : ℕ
  pub mid : Files
  pub covers : Covers seen wal next batches upto old mid
  pub thinned : IsThinned (IsCoveredBy upto) mid now

-- The one is happening, or the other.
abbrev pub IsFlushing : Option TableSeen → ℕ → ℕ → List Batch → Files → Files → Type 0
IsFlushing seen wal next batches old now = IsSettling seen wal next batches old now ⊎ IsClearing seen wal next batches old now

-- It is so at each moment.
abbrev pub FlushesThroughout : Bool → StoreRead → ℕ → DiskView → DiskView → Type 0
FlushesThroughout tells found wal old new =
    IsTrue tells → AtEachMoment old.clock new (IsFlushing found.table wal found.next found.batches (files old))

-- Of a store that was read the table covers the greatest WAL, every listed segment is gone, and every listed table below; and this is
-- told of it.
pub record HasFlushed (tells : Bool) (found : StoreRead) (wal : ℕ) (old new : DiskView) (flushed : Flushed) : Type 0 where
  pub used : TableSeen
  pub mid : DiskView
  pub settled : HasSettled tells found.table wal found.next found.batches old mid used
  pub thinned : IsTrue tells → IsThinned (IsCoveredBy used.upto) (files mid) (files new)
  pub segments : IsTrue tells → (p : Place) → Contains (covered_places (sides_of found) []) p → files new p ≡ None
  pub tables : IsTrue tells → (item : TableListed) → Contains found.tables item → item.upto < used.upto → files new (table item.upto) ≡ None
  pub upto_is : flushed.upto ≡ used.upto
  pub keys_is : flushed.keys ≡ used.keys
  pub next_is : flushed.next ≡ used.next
  pub dropped_is : flushed.dropped ≡ length found.primary + length found.secondary

-- The calls that settle the table, and then, where that was done, only removals of what it covers.
abbrev pub FlushesByCalls : StoreRead → ℕ → DiskView → DiskView → Type 0
FlushesByCalls found wal old new =
    ((fault : RecoverFault) × SettlesByCalls (Err fault) found.table wal found.next found.batches old new)
    ⊎ ((used : TableSeen) × (mid : DiskView) × SettlesByCalls (Ok used) found.table wal found.next found.batches old mid
    × OnlyRemoves (IsCoveredBy used.upto) mid new)
