-- What a row of calls asks of a disk in all (docs/formats/disk.md, "The disk").
use Rattle.std.specs.Prelude.{◌≡◌, ℕ, ◌≤◌, ◌==◌, ◌&&◌, Bool, if◌then◌else◌, List, [], ◌∷◌, ◌++◌, sum_by, Contains, Result, Ok, Err}
use Rattle.disk_face.specs.declared.Side.{Side}
use Rattle.disk_face.specs.declared.SegName.{SegName}
use Rattle.disk_face.specs.declared.Listed.{Listed}
use Rattle.disk_face.specs.declared.DiskErr.{DiskErr}
use Rattle.disk_face.specs.declared.OpId.{OpId}
use Rattle.disk_face.specs.declared.Progress.TheVariants.{Failed}
use Rattle.disk_face.specs.View.{Act, creating, writing, syncing, Flight, Call, was_listed, was_read, tables_were_listed, table_was_read, table_was_put, was_removed, was_started, was_polled, side_eq}

-- what a listing answered: nothing where it failed
abbrev pub answered : {T : Type 0} → Result (List T) DiskErr → List T
answered (Ok names) = names
answered (Err err) = []

-- whether both are the same name
abbrev pub name_eq : SegName → SegName → Bool
name_eq a b = a.wal == b.wal && a.index == b.index

-- 1 for a listing of that side
abbrev pub lists_in : Side → Call → ℕ
lists_in side (was_listed s names) = if side_eq side s then 1 else 0
lists_in side (was_read s name len) = 0
lists_in side (tables_were_listed tables) = 0
lists_in side (table_was_read upto len) = 0
lists_in side (table_was_put upto bytes ok) = 0
lists_in side (was_removed place ok) = 0
lists_in side (was_started id flight) = 0
lists_in side (was_polled id answer) = 0

-- how often a side was listed
abbrev pub listings : Side → List Call → ℕ
listings side = sum_by (lists_in side)

-- how many bytes of the segment a call asks for
abbrev pub bytes_in : Side → SegName → Call → ℕ
bytes_in side name (was_listed s names) = 0
bytes_in side name (was_read s n len) = if side_eq side s && name_eq name n then len else 0
bytes_in side name (tables_were_listed tables) = 0
bytes_in side name (table_was_read upto len) = 0
bytes_in side name (table_was_put upto bytes ok) = 0
bytes_in side name (was_removed place ok) = 0
bytes_in side name (was_started id flight) = 0
bytes_in side name (was_polled id answer) = 0

-- how many bytes of a segment were asked for
abbrev pub bytes_asked : Side → SegName → List Call → ℕ
bytes_asked side name = sum_by (bytes_in side name)

-- the length that a listing gives the segment: 0 where it is not in the list
abbrev pub length_among : SegName → List Listed → ℕ
length_among name = sum_by (λ item. if name_eq name item.name then item.len else 0)

-- the length that a call gives the segment
abbrev pub length_in : Side → SegName → Call → ℕ
length_in side name (was_listed s names) = if side_eq side s then length_among name names else 0
length_in side name (was_read s n len) = 0
length_in side name (tables_were_listed tables) = 0
length_in side name (table_was_read upto len) = 0
length_in side name (table_was_put upto bytes ok) = 0
length_in side name (was_removed place ok) = 0
length_in side name (was_started id flight) = 0
length_in side name (was_polled id answer) = 0

-- the length that the listings gave a segment, each counted: 0 where none had it
abbrev pub length_listed : Side → SegName → List Call → ℕ
length_listed side name = sum_by (length_in side name)

-- each side was listed at most once
abbrev pub ListsOnce : List Call → Type 0
ListsOnce calls = (side : Side) → listings side calls ≤ 1

-- of each segment no more bytes were asked for than the listings gave it
abbrev pub ReadsAtMostListed : List Call → Type 0
ReadsAtMostListed calls = (side : Side) (name : SegName) → bytes_asked side name calls ≤ length_listed side name calls

-- 1 for the start of a creation
abbrev pub creates : Act → ℕ
creates creating = 1
creates writing = 0
creates syncing = 0

abbrev pub creates_in : Call → ℕ
creates_in (was_listed s names) = 0
creates_in (was_read s name len) = 0
creates_in (tables_were_listed tables) = 0
creates_in (table_was_read upto len) = 0
creates_in (table_was_put upto bytes ok) = 0
creates_in (was_removed place ok) = 0
creates_in (was_started id flight) = creates flight.act
creates_in (was_polled id answer) = 0

-- how many creations were started
abbrev pub creations : List Call → ℕ
creations = sum_by creates_in

-- None of these calls started an operation.
abbrev pub StartNone : List Call → Type 0
StartNone calls = (id : OpId) (flight : Flight) → Contains calls (was_started id flight) → ⊥

-- The operation of this id was started last, and these calls were made since. The last call stands first.
pub record StartedLast (id : OpId) (later calls : List Call) : Type 0 where
  pub flight : Flight
  pub earlier : List Call
  pub calls_are : calls ≡ later ++ was_started id flight ∷ earlier
  pub last : StartNone later

-- The operation that was started last has failed.
pub record LastHasFailed (calls : List Call) : Type 0 where
  pub id : OpId
  pub later : List Call
  pub started : StartedLast id later calls
  pub failed : Contains later (was_polled id Failed)
