-- What a disk means: its counts, its operations in flight, and its files at each moment so far (docs/formats/disk.md, "The disk").
use Rattle.std.specs.Prelude.{◌≡◌, ◌≢◌, ℕ, ◌≤◌, Bool, true, false, List, ◌++◌, Option, Some, None, IsSome, Contains}
use Rattle.disk_face.specs.declared.Side.{Side}
use Rattle.disk_face.specs.declared.Side.TheVariants.{Primary, Secondary}
use Rattle.disk_face.specs.declared.SegName.{SegName}
use Rattle.disk_face.specs.declared.FilePlace.{FilePlace}
use Rattle.disk_face.specs.declared.FilePlace.TheVariants.{Segment, Table}
use Rattle.disk_face.specs.declared.Listed.{Listed}
use Rattle.disk_face.specs.declared.TableListed.{TableListed}
use Rattle.disk_face.specs.declared.OpId.{OpId}
use Rattle.disk_face.specs.declared.Progress.{Progress}

-- where a file stands: a segment in one of the two directories, or a table in the primary one
abbrev pub Place : Type 0
Place = FilePlace

abbrev pub segment : Side → SegName → Place
segment side name = Segment side name

abbrev pub table : ℕ → Place
table upto = Table upto

-- what an operation in flight does to its file
pub data Act : Type 0 where
  creating : Act
  writing : Act
  syncing : Act

-- an operation in flight: which file it is on, and what it does to it
pub record Flight : Type 0 where
  pub place : Place
  pub act : Act

-- a file of which a creation was started, or that was put
pub record File : Type 0 where
  -- the bytes of all writes started, in order
  pub sent : List ℕ
  -- how many of them the completed writes cover
  pub done : ℕ
  -- how many of them a completed sync covers
  pub stable : ℕ
  -- whether its creation was completed
  pub created : Bool
  -- whether its removal was begun and not completed
  pub leaving : Bool
  -- what a read gives: the first `done` bytes, and after a failed write any bytes after them
  pub reads : List ℕ

-- the file at each place that has one
abbrev pub Files : Type 0
Files = Place → Option File

-- the contents of the two directories as a crash may leave them
abbrev pub Dirs : Type 0
Dirs = Place → Option (List ℕ)

-- a call that was made of a disk
pub data Call : Type 0 where
  -- a listing of this side, with what it answered: nothing where it failed
  was_listed : Side → List Listed → Call
  -- so many bytes of a segment were asked for
  was_read : Side → SegName → ℕ → Call
  -- the tables were listed, with what was answered: nothing where it failed
  tables_were_listed : List TableListed → Call
  -- so many bytes of a table were asked for
  table_was_read : ℕ → ℕ → Call
  -- a table was to be put with these bytes, and whether that was answered Ok
  table_was_put : ℕ → List ℕ → Bool → Call
  -- a file was to be removed, and whether that was answered Ok
  was_removed : Place → Bool → Call
  -- an operation was put in flight: which file it is on, and what it does to it
  was_started : OpId → Flight → Call
  -- it was asked how an operation stands, and gave this answer
  was_polled : OpId → Progress → Call

-- all that a disk means to contracts
pub record DiskView : Type 0 where
  -- how often an operation or a call failed, by side
  pub faults : Side → ℕ
  -- how many polls may still be answered Pending, by side
  pub polls_left : Side → ℕ
  -- the operations that were started and have not ended
  pub in_flight : OpId → Option Flight
  -- the moment: a number that never falls
  pub clock : ℕ
  -- the files at each moment up to now
  pub history : ℕ → Files
  -- the calls made of it so far, the last one first
  pub calls : List Call

-- the files as they stand now
abbrev pub files : DiskView → Files
files v = v.history v.clock

-- no more than the places of some list have a file
abbrev pub IsFiniteFiles : Files → Type 0
IsFiniteFiles files = (places : List Place) × ((p : Place) → IsSome (files p) → Contains places p)

-- no operation on this file is in flight
abbrev pub IsFree : DiskView → Place → Type 0
IsFree v p = (id : OpId) (f : Flight) → v.in_flight id ≡ Some f → f.place ≢ p

-- no operation at all is in flight
abbrev pub NothingInFlight : DiskView → Type 0
NothingInFlight v = (id : OpId) → v.in_flight id ≡ None

-- P holds of the files at each moment from that one on
abbrev pub AtEachMoment : ℕ → DiskView → (Files → Type 0) → Type 0
AtEachMoment since v P = (k : ℕ) → since ≤ k → k ≤ v.clock → P (v.history k)

-- the calls that were made of the disk since it was `old`, the last one first
abbrev pub Makes : List Call → DiskView → DiskView → Type 0
Makes made old new = new.calls ≡ made ++ old.calls

-- whether both are the same side
abbrev pub side_eq : Side → Side → Bool
side_eq Primary Primary = true
side_eq Primary Secondary = false
side_eq Secondary Primary = false
side_eq Secondary Secondary = true

-- the number of that side, out of one for each
abbrev pub by_side : ℕ → ℕ → Side → ℕ
by_side primary secondary Primary = primary
by_side primary secondary Secondary = secondary
