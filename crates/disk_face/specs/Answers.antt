-- What an answer of a disk tells of its files, its counts and its calls (docs/formats/disk.md, "The disk").
use Rattle.std.specs.Prelude.{◌≡◌, ℕ, Bool, List, length, Some, None, Result, IfOk, IsErrOf, IsTrue, Option}
use Rattle.wal_base.specs.Faults.{Rose}
use Rattle.disk_face.specs.declared.Side.{Side}
use Rattle.disk_face.specs.declared.SegName.{SegName}
use Rattle.disk_face.specs.declared.OpId.{OpId}
use Rattle.disk_face.specs.declared.DiskOp.{DiskOp}
use Rattle.disk_face.specs.declared.Listed.{Listed}
use Rattle.disk_face.specs.declared.DiskErr.{DiskErr}
use Rattle.disk_face.specs.declared.DiskErr.TheVariants.{Failed}
use Rattle.disk_face.specs.View.{Place, segment, File, DiskView, files, was_listed, was_read, was_started}
use Rattle.disk_face.specs.Listing.{IsListing}
use Rattle.disk_face.specs.Asked.{answered}
use Rattle.disk_face.specs.Calls.{side_of, flight_of, place_of, bytes_sent_by, MayStart, after_start, Starts, ChangesFile, FillsFrom, Notes}

-- a failure that is answered was counted on that side
abbrev pub CountsFailure : {T : Type 0} → Side → Result T DiskErr → DiskView → DiskView → Type 0
CountsFailure side result old new = IsErrOf result Failed → Rose (old.faults side) (new.faults side)

-- no fault is counted but that of a failure that is answered, on that side
abbrev pub CountsNoOther : {T : Type 0} → Side → Result T DiskErr → DiskView → DiskView → Type 0
CountsNoOther side result old new = (s : Side) → (IsErrOf result Failed × (s ≡ side) → ⊥) → new.faults s ≡ old.faults s

-- a listing is noted, with its answer
abbrev pub NotesListing : Side → Result (List Listed) DiskErr → DiskView → DiskView → Type 0
NotesListing side result = Notes (was_listed side (answered result))

-- a read is noted, which asks for as many bytes as its buffer has
abbrev pub AsksFor : Side → SegName → List ℕ → DiskView → DiskView → Type 0
AsksFor side name buffer = Notes (was_read side name (length buffer))

-- a start of this operation is noted where it was not refused
abbrev pub NotesStart : {E : Type 0} → DiskOp → Result OpId E → DiskView → DiskView → Type 0
NotesStart op result old new = IfOk result (λ id. Notes (was_started id (flight_of op)) old new)

-- the answer is a listing of the files of that side, where the disk tells them
abbrev pub ListsFiles : Bool → Side → Result (List Listed) DiskErr → DiskView → Type 0
ListsFiles tells side result v = IfOk result (λ names. IsTrue tells → IsListing (files v) side names)

-- the buffer is filled from that place of the file, if one is there
abbrev pub FillsIfThere : Option File → ℕ → List ℕ → ℕ → Type 0
FillsIfThere file at buffer n = (f : File) → file ≡ Some f → FillsFrom f.reads at buffer n

-- the buffer is filled from that place of the file, where the disk tells it
abbrev pub ReadsFile : Bool → Place → ℕ → List ℕ → Result ℕ DiskErr → DiskView → Type 0
ReadsFile tells place at buffer result v = IfOk result (λ n. IsTrue tells → FillsIfThere (files v place) at buffer n)

-- the same of a segment
abbrev pub ReadsSegment : Bool → Side → SegName → ℕ → List ℕ → Result ℕ DiskErr → DiskView → Type 0
ReadsSegment tells side name = ReadsFile tells (segment side name)

-- where the disk tells that no file is there, nothing is read
abbrev pub ReadsNoFile : Bool → Place → Result ℕ DiskErr → DiskView → Type 0
ReadsNoFile tells place result v = IfOk result (λ n. IsTrue tells → files v place ≡ None → n ≡ 0)

-- the operation may be started, by the state of its file
abbrev pub MayStartOn : DiskOp → DiskView → Type 0
MayStartOn op v = MayStart (flight_of op).act (files v (place_of op))

-- an operation that was not refused is in flight
abbrev pub IsStarted : {E : Type 0} → DiskOp → Result OpId E → DiskView → DiskView → Type 0
IsStarted op result old new = IfOk result (λ id. Starts (flight_of op) (side_of op) id old new)

-- one moment passes, in which the file changes as the operation is started
abbrev pub SendsTo : DiskOp → DiskView → DiskView → Type 0
SendsTo op = ChangesFile (place_of op) (λ f g. g ≡ after_start (flight_of op).act (bytes_sent_by op) f)

-- an operation that was not refused has sent to its file, where the disk tells it
abbrev pub SendsIfStarted : {E : Type 0} → Bool → DiskOp → Result OpId E → DiskView → DiskView → Type 0
SendsIfStarted tells op result old new = IfOk result (λ id. IsTrue tells → SendsTo op old new)
