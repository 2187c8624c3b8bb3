-- What one step does to the files that a disk in memory holds (docs/formats/disk.md, "The disk").
use Rattle.std.specs.Prelude.{◌≡◌, ℕ, Bool, List, Some, None, option_map, IsTrue}
use Rattle.disk_face.specs.declared.Side.{Side}
use Rattle.disk_face.specs.declared.SegName.{SegName}
use Rattle.disk_face.specs.declared.OpId.{OpId}
use Rattle.disk_face.specs.declared.DiskOp.{DiskOp}
use Rattle.disk_face.specs.View.{Place, segment, table, File, DiskView, files}
use Rattle.disk_face.specs.Image.{as_read, as_sent}
use Rattle.disk_face.specs.Calls.{flight_of, place_of, bytes_sent_by, after_start, AfterDone}
use Rattle.disk_face.specs.Answers.{FillsIfThere}
use Rattle.disk_face.specs.Tables.{IsBeingPut}
use Rattle.mem_disk.specs.declared.parts.MemFile.{MemFile}
use Rattle.mem_disk.specs.declared.parts.MemAct.{MemAct}
use Rattle.mem_disk.specs.Failing.{left_over}
use Rattle.mem_disk.specs.Mem.{files_held, file_of, act_in_memory, ChangesAt, IsExtended}

-- this file stands at the place now, and no other file has changed
abbrev pub PutsAt : Place → File → List MemFile → List MemFile → Type 0
PutsAt p file old new = ChangesAt p (λ f g. g ≡ Some file) (files_held old) (files_held new)

-- no file stands at the place now, and no other file has changed
abbrev pub RemovesAt : Place → List MemFile → List MemFile → Type 0
RemovesAt p old new = ChangesAt p (λ f g. g ≡ None) (files_held old) (files_held new)

-- the file of the place is leaving now, and no other file has changed
abbrev pub LeavesAt : Place → List MemFile → List MemFile → Type 0
LeavesAt p old new = ChangesAt p (λ f g. g ≡ option_map left_over f) (files_held old) (files_held new)

-- the table is being put, and no other file has changed
abbrev pub IsPuttingAt : ℕ → List ℕ → List MemFile → List MemFile → Type 0
IsPuttingAt upto bytes old new = ChangesAt (table upto) (λ f. IsBeingPut bytes) (files_held old) (files_held new)

-- this file stands at its place now, and no other file has changed
abbrev pub PutsFile : MemFile → List MemFile → List MemFile → Type 0
PutsFile file = PutsAt file.place (file_of file)

-- the file has changed as the operation is done
abbrev pub ChangesAsDone : MemAct → MemFile → MemFile → Type 0
ChangesAsDone act old new = AfterDone (act_in_memory act) (Some (file_of old)) (Some (file_of new))

-- the segment's file has changed as the operation is done, and no other one
abbrev pub SettlesAt : Side → SegName → MemAct → List MemFile → List MemFile → Type 0
SettlesAt side name act old new = ChangesAt (segment side name) (AfterDone (act_in_memory act)) (files_held old) (files_held new)

-- the file of the operation has changed as it is started, and no other one
abbrev pub BeginsAt : DiskOp → List MemFile → List MemFile → Type 0
BeginsAt op old new = ChangesAt (place_of op) (λ f g. g ≡ after_start (flight_of op).act (bytes_sent_by op) f) (files_held old) (files_held new)

-- these bytes more were sent to the segment, and no other file has changed
abbrev pub ExtendsAt : Side → SegName → List ℕ → List MemFile → List MemFile → Type 0
ExtendsAt side name bytes old new = ChangesAt (segment side name) (IsExtended bytes) (files_held old) (files_held new)

-- a read of the segment gives these bytes
abbrev pub HeldReads : List MemFile → Side → SegName → List ℕ → Type 0
HeldReads fs side name bytes = as_read (segment side name) (files_held fs (segment side name)) ≡ Some bytes

-- these bytes were sent to the segment
abbrev pub HeldSent : List MemFile → Side → SegName → List ℕ → Type 0
HeldSent fs side name bytes = as_sent (files_held fs (segment side name)) ≡ Some bytes

-- the buffer is filled from there in the file of that place, if it is there
abbrev pub HeldFills : List MemFile → Place → ℕ → List ℕ → ℕ → Type 0
HeldFills fs p = FillsIfThere (files_held fs p)

-- each operation in flight stands as it did
abbrev pub FlightsStay : DiskView → DiskView → Type 0
FlightsStay old new = (id : OpId) → new.in_flight id ≡ old.in_flight id

-- the operation was started and is done, where the disk tells its file
abbrev pub IsPerformed : Bool → DiskOp → DiskView → DiskView → Type 0
IsPerformed tells op old new =
    IsTrue tells → AfterDone (flight_of op).act (after_start (flight_of op).act (bytes_sent_by op) (files old (place_of op))) (files new (place_of op))
