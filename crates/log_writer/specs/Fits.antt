-- What a writer that fits a disk knows of it, between its calls too (docs/formats/journal.md, "The writer of a segment").
use Rattle.crc_chunk.specs.declared.chunk.TheConstants.{BLOCK}
use Rattle.std.specs.Prelude.{◌≡◌, ◌≢◌, ◌⊎◌, ℕ, ◌<◌, ◌≤◌, ◌%◌, ◌^◌, Bool, true, false, List, [], length, Option, Some, IsTrue}
use Rattle.disk_face.specs.declared.OpId.{OpId}
use Rattle.disk_face.specs.View.{Place, segment, Act, creating, writing, syncing, Flight, File, DiskView, files, IsFree}
use Rattle.disk_face.specs.Image.{log_of}
use Rattle.disk_face.specs.Calls.{MayStart, fresh}
use Rattle.batch_repr.specs.declared.batch.Batch.{Batch}
use Rattle.log_writer.specs.declared.phase.Operation.{Operation}
use Rattle.log_writer.specs.declared.phase.Operation.TheVariants.{Create, Write, Sync}
use Rattle.log_writer.specs.declared.phase.Phase.{Phase}
use Rattle.log_writer.specs.declared.phase.Phase.TheVariants.{New, InFlight, Idle, Broken}
use Rattle.log_writer.specs.Writer.{Writer}
use Rattle.log_writer.specs.Parts.{segment_bytes}

-- the place of the writer's segment
abbrev pub place_of_writer : Writer → Place
place_of_writer w = segment w.side w.name

-- what an operation does to its file
abbrev pub act_of : Operation → Act
act_of Create = creating
act_of Write = writing
act_of Sync = syncing

-- the operation with that act on the writer's file, once it is in flight
abbrev pub flight_on : Act → Writer → Flight
flight_on act w = record { place = place_of_writer w; act = act }

-- an operation is in flight
abbrev pub IsBusy : Phase → Type 0
IsBusy New = ⊥
IsBusy (InFlight operation id) = Unit {0}
IsBusy Idle = ⊥
IsBusy Broken = ⊥

-- the one operation in flight on this file
pub record Flies (v : DiskView) (place : Place) (act : Act) (id : OpId) : Type 0 where
  pub here : v.in_flight id ≡ Some (record { place = place; act = act })
  pub alone : (q : OpId) → q ≢ id → (f : Flight) → v.in_flight q ≡ Some f → f.place ≢ place

-- the operation in flight on the file is the writer's, and there is no other
abbrev pub HasFlight : Phase → Place → DiskView → Type 0
HasFlight New place v = IsFree v place
HasFlight (InFlight operation id) place v = Flies v place (act_of operation) id
HasFlight Idle place v = IsFree v place
HasFlight Broken place v = IsFree v place

-- The numbers of a writer of these records are in order, and it frames where the bytes sent end. The sync offset of each record is
-- no more than what a completed sync covers.
pub record IsOrdered (offsets : ℕ → ℕ) (records : List Batch) (w : Writer) : Type 0 where
  pub log : w.log ≡ log_of (place_of_writer w)
  pub from : w.from ≤ w.synced
  pub synced : w.synced ≤ w.written
  pub written : w.written ≤ w.sent
  pub sent : w.sent ≤ length records
  pub size : w.size ≡ length (segment_bytes w.log offsets w.from w.sent records)
  pub place : w.place ≡ w.size % BLOCK
  pub covered : w.synced_bytes ≡ length (segment_bytes w.log offsets w.from w.synced records)
  pub below : (number : ℕ) → offsets number ≤ w.synced_bytes
  pub fit : (number : ℕ) → offsets number < 2 ^ 64

-- what is sent and not written is in flight, or failed
abbrev pub HasNumbers : Phase → Writer → Type 0
HasNumbers New w = w.sent ≡ w.from
HasNumbers (InFlight Create id) w = w.sent ≡ w.from
HasNumbers (InFlight Write id) w = Unit {0}
HasNumbers (InFlight Sync id) w = w.written ≡ w.sent
HasNumbers Idle w = w.written ≡ w.sent
HasNumbers Broken w = Unit {0}

-- a created file: the records up to `sent` were sent to it, those up to `written` are done, and those up to `synced` stable
abbrev pub file_with : (ℕ → ℕ) → List Batch → Writer → List ℕ → File
file_with offsets records w reads = record {
  sent = segment_bytes w.log offsets w.from w.sent records;
  done = length (segment_bytes w.log offsets w.from w.written records);
  stable = w.synced_bytes;
  created = true;
  leaving = false;
  reads = reads;
}

-- It is there, and a read gives the records that are written.
abbrev pub HoldsRecords : (ℕ → ℕ) → List Batch → Writer → Option File → Type 0
HoldsRecords offsets records w f = f ≡ Some (file_with offsets records w (segment_bytes w.log offsets w.from w.written records))

-- It is there, and a read may give more than what is written: a write of it has failed.
abbrev pub HoldsBroken : (ℕ → ℕ) → List Batch → Writer → Option File → Type 0
HoldsBroken offsets records w f = (reads : List ℕ) × (f ≡ Some (file_with offsets records w reads))

-- nothing was sent to the file: it is not there, or its creation was not completed
abbrev pub IsUnsent : Option File → Type 0
IsUnsent f = MayStart creating f × ((g : File) → f ≡ Some g → g.sent ≡ [])

-- how the file stands, in each phase
abbrev pub HasFile : Phase → (ℕ → ℕ) → List Batch → Writer → Option File → Type 0
HasFile New offsets records w f = IsUnsent f
HasFile (InFlight Create id) offsets records w f = f ≡ Some fresh
HasFile (InFlight Write id) offsets records w f = HoldsRecords offsets records w f
HasFile (InFlight Sync id) offsets records w f = HoldsRecords offsets records w f
HasFile Idle offsets records w f = HoldsRecords offsets records w f
HasFile Broken offsets records w f = ((w.sent ≡ w.from) × (f ≡ Some fresh)) ⊎ HoldsBroken offsets records w f

-- The writer of these records fits the disk. Each record has a sync offset, by its number.
pub record Fits (tells : Bool) (records : List Batch) (w : Writer) (v : DiskView) : Type 0 where
  pub offsets : ℕ → ℕ
  pub ordered : IsOrdered offsets records w
  pub numbers : HasNumbers w.phase w
  pub flight : HasFlight w.phase (place_of_writer w) v
  pub file : IsTrue tells → HasFile w.phase offsets records w (files v (place_of_writer w))

-- Nothing changed of one file: its operations in flight, and where files are told the file.
pub record SameFile (tells : Bool) (place : Place) (old new : DiskView) : Type 0 where
  pub still : (q : OpId) (f : Flight) → f.place ≡ place → old.in_flight q ≡ Some f → new.in_flight q ≡ Some f
  pub no_more : (q : OpId) (f : Flight) → f.place ≡ place → new.in_flight q ≡ Some f → old.in_flight q ≡ Some f
  pub file : IsTrue tells → files new place ≡ files old place
