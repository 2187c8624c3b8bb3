-- Listings of files, in ascending order (docs/formats/disk.md, "The disk" and "Tables").
use Rattle.disk_face.specs.declared.names.TheConstants.{WAL_MAX, INDEX_MAX}
use Rattle.std.specs.Prelude.{◌≡◌, ◌⊎◌, ◌↔◌, ℕ, ◌<◌, ◌≤◌, true, List, length, All, AllPairs, Contains, Some}
use Rattle.disk_face.specs.declared.Side.{Side}
use Rattle.disk_face.specs.declared.SegName.{SegName}
use Rattle.disk_face.specs.declared.Listed.{Listed}
use Rattle.disk_face.specs.declared.TableListed.{TableListed}
use Rattle.disk_face.specs.View.{Place, segment, table, File, Files}

-- the name stands before the other one: by its WAL, and in one WAL by its index
abbrev pub IsBefore : SegName → SegName → Type 0
IsBefore a b = (a.wal < b.wal) ⊎ ((a.wal ≡ b.wal) × (a.index < b.index))

-- each segment stands before all later ones
abbrev pub IsAscending : List Listed → Type 0
IsAscending = AllPairs (λ a b. IsBefore a.name b.name)

-- each table stands before all later ones
abbrev pub AreTablesAscending : List TableListed → Type 0
AreTablesAscending = AllPairs (λ a b. a.upto < b.upto)

-- a created file stands there, of which a read gives so many bytes
abbrev pub HasLength : Files → Place → ℕ → Type 0
HasLength files place len = (f : File) × (files place ≡ Some f) × (f.created ≡ true) × (length f.reads ≡ len)

-- the number of a WAL has at most twelve digits, and the index of a segment at most three
abbrev pub IsSegmentName : SegName → Type 0
IsSegmentName name = (name.wal ≤ WAL_MAX) × (name.index ≤ INDEX_MAX)

-- every segment of the list has such a name
abbrev pub AreSegmentNames : List Listed → Type 0
AreSegmentNames = All (λ item. IsSegmentName item.name)

-- the list has the created segments of such names of one side, each with its length, and nothing else
abbrev pub IsListing : Files → Side → List Listed → Type 0
IsListing files side names = (item : Listed) → Contains names item ↔ (IsSegmentName item.name × HasLength files (segment side item.name) item.len)

-- the number of a table has at most twelve digits
abbrev pub IsTableNumber : ℕ → Type 0
IsTableNumber upto = upto ≤ WAL_MAX

-- every table of the list has such a number
abbrev pub AreTableNumbers : List TableListed → Type 0
AreTableNumbers = All (λ t. IsTableNumber t.upto)

-- a table stands there, whole or not, of which a read gives so many bytes
abbrev pub HasTable : Files → ℕ → ℕ → Type 0
HasTable files upto len = (f : File) × (files (table upto) ≡ Some f) × (length f.reads ≡ len)

-- The list has the tables of such numbers, each with its length, and nothing else. One whose put failed is among them.
abbrev pub IsTableListing : Files → List TableListed → Type 0
IsTableListing files tables = (item : TableListed) → Contains tables item ↔ (IsTableNumber item.upto × HasTable files item.upto item.len)
