-- What the calls of a disk do to what it means (docs/formats/disk.md, "The disk").
use Rattle.std.specs.Prelude.{◌≡◌, ◌≢◌, ℕ, suc, ◌+◌, ◌-◌, ◌≤◌, ◌^◌, min, Bool, true, false, List, [], ◌∷◌, ◌++◌, length, take, drop, Option, Some, None, IsTrue}
use Rattle.disk_face.specs.declared.Side.{Side}
use Rattle.disk_face.specs.declared.OpId.{OpId}
use Rattle.disk_face.specs.declared.DiskOp.{DiskOp}
use Rattle.disk_face.specs.declared.DiskOp.TheVariants.{Create, Write, Sync}
use Rattle.disk_face.specs.declared.Progress.{Progress}
use Rattle.disk_face.specs.declared.Progress.TheVariants.{Pending, Done, Failed}
use Rattle.wal_base.specs.Faults.{Rose}
use Rattle.disk_face.specs.View.{Place, segment, Act, creating, writing, syncing, Flight, File, Call, DiskView, files}

-- the side whose directory an operation works in
abbrev pub side_of : DiskOp → Side
side_of (Create side name) = side
side_of (Write side name bytes) = side
side_of (Sync side name) = side

-- the operation once it is in flight
abbrev pub flight_of : DiskOp → Flight
flight_of (Create side name) = record { place = segment side name; act = creating }
flight_of (Write side name bytes) = record { place = segment side name; act = writing }
flight_of (Sync side name) = record { place = segment side name; act = syncing }

-- the place that an operation works on
abbrev pub place_of : DiskOp → Place
place_of op = (flight_of op).place

-- the bytes that an operation sends to its file
abbrev pub bytes_sent_by : DiskOp → List ℕ
bytes_sent_by (Create side name) = []
bytes_sent_by (Write side name bytes) = bytes.now
bytes_sent_by (Sync side name) = []

-- a file of which a creation was started, and nothing else
abbrev pub fresh : File
fresh = record { sent = []; done = 0; stable = 0; created = false; leaving = false; reads = [] }

-- when an operation may be started, by the state of its file
abbrev pub MayStart : Act → Option File → Type 0
MayStart creating None = Unit {0}
MayStart creating (Some f) = f.created ≡ false
MayStart writing None = ⊥
MayStart writing (Some f) = f.created ≡ true
MayStart syncing None = ⊥
MayStart syncing (Some f) = f.created ≡ true

-- the file once the operation is started, with the bytes that it sends
abbrev pub after_start : Act → List ℕ → Option File → Option File
after_start creating bytes f = Some fresh
after_start writing bytes None = None
after_start writing bytes (Some f) = Some (record f { sent = f.sent ++ bytes })
after_start syncing bytes f = f

-- a file whose reads give what the completed writes cover, and no more. A failed write may end that
abbrev pub IsClean : File → Type 0
IsClean f = f.reads ≡ take f.done f.sent

-- the file once the operation is done
abbrev pub AfterDone : Act → Option File → Option File → Type 0
AfterDone act None g = g ≡ None
AfterDone creating (Some f) g = g ≡ Some (record f { created = true })
AfterDone writing (Some f) g = (reads : List ℕ) × (IsClean f → reads ≡ f.sent) × (g ≡ Some (record f { done = length f.sent; reads = reads }))
AfterDone syncing (Some f) g = g ≡ Some (record f { stable = f.done })

-- the file once the operation has failed
abbrev pub AfterFailed : Act → Option File → Option File → Type 0
AfterFailed act None g = g ≡ None
AfterFailed creating (Some f) g = g ≡ Some f
AfterFailed writing (Some f) g = (reads : List ℕ) × (g ≡ Some (record f { reads = reads }))
AfterFailed syncing (Some f) g = g ≡ Some f

-- what every call keeps but a stall
pub record GoesOn (old new : DiskView) : Type 0 where
  pub faults : (s : Side) → old.faults s ≤ new.faults s
  pub polls : (s : Side) → new.polls_left s ≤ old.polls_left s
  pub clock : old.clock ≤ new.clock
  pub history : (k : ℕ) → k ≤ old.clock → new.history k ≡ old.history k

-- what every call keeps, a stall too: the disk went on
pub record WentOn (old new : DiskView) : Type 0 where
  pub faults : (s : Side) → old.faults s ≤ new.faults s
  pub clock : old.clock ≤ new.clock
  pub history : (k : ℕ) → k ≤ old.clock → new.history k ≡ old.history k

-- no operation and no file changes, and no moment passes
pub record SameDisk (old new : DiskView) : Type 0 where
  pub in_flight : new.in_flight ≡ old.in_flight
  pub clock : new.clock ≡ old.clock
  pub history : new.history ≡ old.history

-- one operation more is in flight
pub record Starts (flight : Flight) (side : Side) (id : OpId) (old new : DiskView) : Type 0 where
  pub side_is : id.side ≡ side
  pub fresh : old.in_flight id ≡ None
  pub here : new.in_flight id ≡ Some flight
  pub others : (q : OpId) → q ≢ id → new.in_flight q ≡ old.in_flight q
  pub no_fault : new.faults ≡ old.faults

-- the operation is no longer in flight
pub record Ends (id : OpId) (old new : DiskView) : Type 0 where
  pub gone : new.in_flight id ≡ None
  pub others : (q : OpId) → q ≢ id → new.in_flight q ≡ old.in_flight q

-- one moment passes, in which this file alone may change
pub record ChangesFile (place : Place) (Change : Option File → Option File → Type 0) (old new : DiskView) : Type 0 where
  pub clock : new.clock ≡ suc old.clock
  pub here : Change (files old place) (files new place)
  pub others : (q : Place) → q ≢ place → files new q ≡ files old q

-- Pending: one poll less is left on its side, and nothing else happened
pub record StaysPending (id : OpId) (old new : DiskView) : Type 0 where
  pub fell : new.polls_left id.side + 1 ≡ old.polls_left id.side
  pub same : SameDisk old new

-- Done: the operation ended, and one moment passed, in which its file changed as it is done
pub record IsDone (tells : Bool) (id : OpId) (old new : DiskView) : Type 0 where
  pub ends : Ends id old new
  pub file : IsTrue tells → (f : Flight) → old.in_flight id ≡ Some f → ChangesFile f.place (AfterDone f.act) old new

-- Failed: the operation ended, its side counted a fault, and one moment passed, in which its file changed as it has failed
pub record HasFailed (tells : Bool) (id : OpId) (old new : DiskView) : Type 0 where
  pub ends : Ends id old new
  pub rose : Rose (old.faults id.side) (new.faults id.side)
  pub file : IsTrue tells → (f : Flight) → old.in_flight id ≡ Some f → ChangesFile f.place (AfterFailed f.act) old new

-- what each answer to a poll tells of the disk
abbrev pub Polled : Bool → OpId → DiskView → DiskView → Progress → Type 0
Polled tells id old new Pending = StaysPending id old new
Polled tells id old new Done = IsDone tells id old new
Polled tells id old new Failed = HasFailed tells id old new

-- the faults stay, but on the side of the operation where `Failed` is answered
abbrev pub FaultsStayBut : OpId → Progress → DiskView → DiskView → Type 0
FaultsStayBut id answer old new = (s : Side) → ((answer ≡ Failed) × (s ≡ id.side) → ⊥) → new.faults s ≡ old.faults s

-- the polls left stay, but on the side of the operation where `Pending` is answered
abbrev pub StallsStayBut : OpId → Progress → DiskView → DiskView → Type 0
StallsStayBut id answer old new = (s : Side) → ((answer ≡ Pending) × (s ≡ id.side) → ⊥) → new.polls_left s ≡ old.polls_left s

-- the polls left stay on both sides
abbrev pub StallsStay : DiskView → DiskView → Type 0
StallsStay old new = new.polls_left ≡ old.polls_left

-- this call alone is noted
abbrev pub Notes : Call → DiskView → DiskView → Type 0
Notes call old new = new.calls ≡ call ∷ old.calls

-- the buffer is filled from that place of the file, or as far as the file goes
abbrev pub FillsFrom : List ℕ → ℕ → List ℕ → ℕ → Type 0
FillsFrom content at buffer n = (n ≡ min (length buffer) (length content - at)) × (take n buffer ≡ take n (drop at content))

-- the polls left on one side are raised, up to the last value
pub record Stalls (side : Side) (polls : ℕ) (old new : DiskView) : Type 0 where
  pub raised : min (old.polls_left side + polls) (2 ^ 64 - 1) ≤ new.polls_left side
  pub no_more : new.polls_left side ≤ old.polls_left side + polls
  pub others : (s : Side) → s ≢ side → new.polls_left s ≡ old.polls_left s
  pub faults : new.faults ≡ old.faults
  pub same : SameDisk old new
  pub calls : new.calls ≡ old.calls
