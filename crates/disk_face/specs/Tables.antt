-- What the calls on tables and the removals do to a disk, over the same view (docs/formats/disk.md, "Tables").
use Rattle.std.specs.Prelude.{◌≡◌, ◌≢◌, ℕ, ◌<◌, ◌≤◌, Bool, true, false, List, length, Option, Some, None, Result, is_ok, IfOk, OnOk, IsSome, IsTrue}
use Rattle.disk_face.specs.declared.Side.{Side}
use Rattle.disk_face.specs.declared.SegName.{SegName}
use Rattle.disk_face.specs.declared.TableListed.{TableListed}
use Rattle.disk_face.specs.declared.DiskErr.{DiskErr}
use Rattle.disk_face.specs.View.{Place, segment, table, File, DiskView, files, tables_were_listed, table_was_read, table_was_put, was_removed}
use Rattle.disk_face.specs.Listing.{IsTableListing}
use Rattle.disk_face.specs.Asked.{answered}
use Rattle.disk_face.specs.Calls.{Notes}

-- a file that stands whole in each image
abbrev pub whole : List ℕ → File
whole bytes = record { sent = bytes; done = length bytes; stable = length bytes; created = true; leaving = false; reads = bytes }

-- the clock moves on, and at each moment since the call began this file alone may have changed, and then it has this form
pub record ChangesInCall (place : Place) (Form : Option File → Type 0) (old new : DiskView) : Type 0 where
  pub later : old.clock < new.clock
  pub here : (k : ℕ) → old.clock < k → k ≤ new.clock → Form (new.history k place)
  pub others : (k : ℕ) → old.clock < k → k ≤ new.clock → (q : Place) → q ≢ place → new.history k q ≡ files old q

-- a listing of the tables is noted, with its answer
abbrev pub NotesTables : Result (List TableListed) DiskErr → DiskView → DiskView → Type 0
NotesTables result = Notes (tables_were_listed (answered result))

-- a read of a table is noted, which asks for as many bytes as its buffer has
abbrev pub AsksForTable : ℕ → List ℕ → DiskView → DiskView → Type 0
AsksForTable upto buffer = Notes (table_was_read upto (length buffer))

-- a put of a table is noted
abbrev pub NotesPut : {T : Type 0} → ℕ → List ℕ → Result T DiskErr → DiskView → DiskView → Type 0
NotesPut upto bytes result = Notes (table_was_put upto bytes (is_ok result))

-- the removal of a file is noted
abbrev pub NotesRemoval : {T : Type 0} → Place → Result T DiskErr → DiskView → DiskView → Type 0
NotesRemoval place result = Notes (was_removed place (is_ok result))

-- a table that is being put: absent, or sent and not created (any bytes in an image), or whole
abbrev pub IsBeingPut : List ℕ → Option File → Type 0
IsBeingPut bytes None = Unit {0}
IsBeingPut bytes (Some f) = (f.sent ≡ bytes) × (f.created ≡ true → f ≡ whole bytes)

-- a file that is being removed: as it was or absent in an image, or gone
abbrev pub IsBeingRemoved : Option File → Option File → Type 0
IsBeingRemoved f None = Unit {0}
IsBeingRemoved None (Some g) = ⊥
IsBeingRemoved (Some f) (Some g) = g ≡ record f { leaving = true }

-- the call puts this table, and changes no other file
abbrev pub PutsTable : ℕ → List ℕ → DiskView → DiskView → Type 0
PutsTable upto bytes old new = ChangesInCall (table upto) (IsBeingPut bytes) old new

-- the call removes this file, and changes no other one
abbrev pub Removes : Place → DiskView → DiskView → Type 0
Removes place old new = ChangesInCall place (IsBeingRemoved (files old place)) old new

-- the answer is a listing of the tables, where the disk tells them
abbrev pub ListsTables : Bool → Result (List TableListed) DiskErr → DiskView → Type 0
ListsTables tells result v = IfOk result (λ tables. IsTrue tells → IsTableListing (files v) tables)

-- where the disk tells its files, the call puts this table
abbrev pub Puts : Bool → ℕ → List ℕ → DiskView → DiskView → Type 0
Puts tells upto bytes old new = IsTrue tells → PutsTable upto bytes old new

-- where the disk tells its files, the call removes this segment
abbrev pub Drops : Bool → Side → SegName → DiskView → DiskView → Type 0
Drops tells side name old new = IsTrue tells → Removes (segment side name) old new

-- where the disk tells its files, the call removes this table
abbrev pub DropsTable : Bool → ℕ → DiskView → DiskView → Type 0
DropsTable tells upto old new = IsTrue tells → Removes (table upto) old new

-- after `Ok` the file stands whole, where the disk tells it
abbrev pub StandsWhole : {T : Type 0} → Bool → Place → List ℕ → Result T DiskErr → DiskView → Type 0
StandsWhole tells place bytes result v = OnOk result (IsTrue tells → files v place ≡ Some (whole bytes))

-- after `Ok` the file is gone, where the disk tells it
abbrev pub IsGone : {T : Type 0} → Bool → Place → Result T DiskErr → DiskView → Type 0
IsGone tells place result v = OnOk result (IsTrue tells → files v place ≡ None)

-- the file is there, where the disk tells it
abbrev pub IsThere : Bool → Place → DiskView → Type 0
IsThere tells place v = IsTrue tells → IsSome (files v place)
