-- What the fields of a disk in memory stand for (docs/formats/disk.md, "The disk").
use Rattle.disk_face.specs.declared.names.TheConstants.{WAL_MAX, INDEX_MAX}
use Rattle.std.specs.Prelude.{◌≡◌, ◌≢◌, ℕ, suc, ◌==◌, ◌&&◌, ◌||◌, not, nat_lt, nat_le, Bool, true, false, if◌then◌else◌, List, [], ◌∷◌, take, drop, length, slice_get, Option, Some, None, option_map, ◌<◌, slice_index_or, slice_set, insert, ◌++◌}
use Rattle.disk_face.specs.declared.Side.{Side}
use Rattle.disk_face.specs.declared.SegName.{SegName}
use Rattle.disk_face.specs.declared.OpId.{OpId}
use Rattle.disk_face.specs.declared.Listed.{Listed}
use Rattle.disk_face.specs.declared.TableListed.{TableListed}
use Rattle.disk_face.specs.declared.FilePlace.TheVariants.{Segment, Table}
use Rattle.disk_face.specs.View.{Place, segment, Act, creating, writing, syncing, Flight, File, Files, Call, DiskView}
use Rattle.disk_face.specs.Calls.{fresh}
use Rattle.disk_face.specs.Tables.{whole}
pub use Rattle.disk_face.specs.View.{side_eq}
use Rattle.mem_disk.specs.declared.parts.MemFile.{MemFile}
use Rattle.mem_disk.specs.declared.parts.MemAct.{MemAct}
use Rattle.mem_disk.specs.declared.parts.MemAct.TheVariants.{Create, Write, Sync}
use Rattle.mem_disk.specs.declared.parts.MemOp.{MemOp}

-- whether both are the same place
abbrev pub is_at : Place → Place → Bool
is_at (Segment s n) (Segment t m) = side_eq s t && (n.wal == m.wal && n.index == m.index)
is_at (Segment s n) (Table upto) = false
is_at (Table upto) (Segment s n) = false
is_at (Table n) (Table m) = n == m

-- whether a table stands there
abbrev pub is_table : Place → Bool
is_table (Segment s n) = false
is_table (Table upto) = true

-- a segment that is not created yet is empty, whatever stands in its other fields
abbrev pub segment_of : MemFile → File
segment_of f = if f.created then record {
  sent = f.sent.items;
  done = f.done;
  stable = f.stable;
  created = true;
  leaving = f.leaving;
  reads = take f.done f.sent.items;
} else record fresh { leaving = f.leaving }

-- A table that is created is whole, whatever numbers stand in its other fields. One that is not reads as far as it is done.
abbrev pub table_of : MemFile → File
table_of f = if f.created then record (whole f.sent.items) { leaving = f.leaving } else record {
  sent = f.sent.items;
  done = f.done;
  stable = f.stable;
  created = false;
  leaving = f.leaving;
  reads = take f.done f.sent.items;
}

-- the file, in the words of a disk
abbrev pub file_of : MemFile → File
file_of f = if is_table f.place then table_of f else segment_of f

-- the files, each at its place
abbrev pub files_held : List MemFile → Files
files_held [] p = None
files_held (f ∷ fs) p = if is_at f.place p then Some (file_of f) else files_held fs p

-- what the operation does, in the words of a disk
abbrev pub act_in_memory : MemAct → Act
act_in_memory Create = creating
act_in_memory Write = writing
act_in_memory Sync = syncing

-- the operation of that number, while it is in flight
abbrev pub flight_if : OpId → Option MemOp → Option Flight
flight_if id None = None
flight_if id (Some op) = if op.live && side_eq op.side id.side then Some (record { place = segment op.side op.name; act = act_in_memory op.act }) else None

-- the operations in flight
abbrev pub flight_in : List MemOp → OpId → Option Flight
flight_in ops id = flight_if id (slice_get ops id.number)

-- where the first file of this place stands
abbrev pub index_at : Place → List MemFile → Option ℕ
index_at p [] = None
index_at p (f ∷ fs) = if is_at f.place p then Some 0 else option_map suc (index_at p fs)

-- the first list of files, or the files now where there is none
abbrev pub first_or_now : List MemFile → List (List MemFile) → List MemFile
first_or_now now [] = now
first_or_now now (was ∷ later) = was

-- the files at that moment, by those at each moment that has passed
abbrev pub at_moment : List (List MemFile) → List MemFile → ℕ → List MemFile
at_moment past now k = first_or_now now (drop k past)

-- what the disk means
unfoldable pub mem_view : List MemFile → List MemOp → List (List MemFile) → (Side → ℕ) → (Side → ℕ) → List Call → DiskView
mem_view files ops past faults polls calls =
    record {
      faults = faults;
      polls_left = polls;
      in_flight = flight_in ops;
      clock = length past;
      history = λ k. files_held (at_moment past files k);
      calls = calls;
    }

-- one file alone may change
pub record ChangesAt (p : Place) (Change : Option File → Option File → Type 0) (old new : Files) : Type 0 where
  pub here : Change (old p) (new p)
  pub others : (q : Place) → q ≢ p → new q ≡ old q

-- an operation as it is kept, in the words of a disk
abbrev pub flight_kept : MemOp → Flight
flight_kept op = record { place = segment op.side op.name; act = act_in_memory op.act }

-- the operation of that number, on its side
abbrev pub id_of : MemOp → ℕ → OpId
id_of op number = record { side = op.side; number = number }

-- every other operation stands as it did
abbrev pub FlightsStayBut : OpId → List MemOp → List MemOp → Type 0
FlightsStayBut id old new = (q : OpId) → q ≢ id → flight_in new q ≡ flight_in old q

-- whether the first name stands before the second one
abbrev pub is_before : SegName → SegName → Bool
is_before a b = nat_lt a.wal b.wal || (a.wal == b.wal && nat_lt a.index b.index)

-- Whether a file at the first place may stand before one at the second: segments of a side ascend by name, tables by number.
abbrev pub precedes : Place → Place → Bool
precedes (Segment s n) (Segment t m) = not (side_eq s t) || is_before n m
precedes (Segment s n) (Table upto) = true
precedes (Table upto) (Segment s n) = true
precedes (Table n) (Table m) = nat_lt n m

-- whether a file at that place may stand before each of the list
abbrev pub is_before_all : Place → List MemFile → Bool
is_before_all p [] = true
is_before_all p (x ∷ xs) = precedes p x.place && is_before_all p xs

-- whether each file may stand before all later ones
abbrev pub is_ordered : List MemFile → Bool
is_ordered [] = true
is_ordered (m ∷ ms) = is_before_all m.place ms && is_ordered ms

-- each file stands before all later ones of its kind and side
abbrev pub AreInOrder : List MemFile → Type 0
AreInOrder fs = is_ordered fs ≡ true

-- whether a file of that place goes before this one
abbrev pub goes_before : Place → MemFile → Bool
goes_before p m = not (precedes m.place p)

-- the files with one more, at its place in the order
abbrev pub put : MemFile → List MemFile → List MemFile
put m [] = m ∷ []
put m (x ∷ xs) = if goes_before m.place x then m ∷ x ∷ xs else x ∷ put m xs

-- whether the name is in range
abbrev pub is_named : SegName → Bool
is_named name = nat_le name.wal WAL_MAX && nat_le name.index INDEX_MAX

-- what a listing of the side has of a segment
abbrev pub listed_at : Side → Place → MemFile → List Listed
listed_at side (Segment s n) m = if m.created && (side_eq s side && is_named n) then record { name = n; len = m.done } ∷ [] else []
listed_at side (Table upto) m = []

-- what a listing of the side has of one file
abbrev pub listed_one : Side → MemFile → List Listed
listed_one side m = listed_at side m.place m

-- what a listing of the side has of the files
abbrev pub listed_of : Side → List MemFile → List Listed
listed_of side [] = []
listed_of side (m ∷ ms) = listed_one side m ++ listed_of side ms

-- what a listing of the tables has of a file: of a table, how many of its bytes a read gives
abbrev pub table_at : Place → MemFile → List TableListed
table_at (Segment s n) m = []
table_at (Table n) m = if nat_le n WAL_MAX then record { upto = n; len = length (table_of m).reads } ∷ [] else []

-- what a listing of the tables has of one file
abbrev pub table_one : MemFile → List TableListed
table_one m = table_at m.place m

-- what a listing of the tables has of the files
abbrev pub tables_of : List MemFile → List TableListed
tables_of [] = []
tables_of (m ∷ ms) = table_one m ++ tables_of ms

-- a file of this place is put in the order at i
abbrev pub IsPutAt : Place → List MemFile → ℕ → Type 0
IsPutAt p fs i = (m : MemFile) → m.place ≡ p → put m fs ≡ insert fs i m

-- the file of this place stands at i
pub record FoundAt (p : Place) (fs : List MemFile) (i : ℕ) : Type 0 where
  pub below : i < length fs
  pub place : (d : MemFile) → (slice_index_or fs i d).place ≡ p
  pub kind : (d : MemFile) → is_table (slice_index_or fs i d).place ≡ is_table p
  pub here : (d : MemFile) → files_held fs p ≡ Some (file_of (slice_index_or fs i d))
  pub set_here : (m : MemFile) → m.place ≡ p → files_held (slice_set fs i m) p ≡ Some (file_of m)
  pub set_others : (m : MemFile) → m.place ≡ p → (q : Place) → q ≢ p → files_held (slice_set fs i m) q ≡ files_held fs q
  pub set_ordered : (m : MemFile) → m.place ≡ p → AreInOrder fs → AreInOrder (slice_set fs i m)

-- no file is created there
abbrev pub IsUncreated : Option File → Type 0
IsUncreated None = Unit {0}
IsUncreated (Some f) = f.created ≡ false

-- a created file is there
abbrev pub IsCreated : Option File → Type 0
IsCreated None = ⊥
IsCreated (Some f) = f.created ≡ true

-- bytes more were sent
abbrev pub IsExtended : List ℕ → Option File → Option File → Type 0
IsExtended bytes None g = g ≡ None
IsExtended bytes (Some f) g = g ≡ Some (record f { sent = f.sent ++ bytes })
