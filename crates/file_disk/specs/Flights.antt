-- What the two directories of a disk over files mean (docs/formats/disk.md, "The disk").
use Rattle.std.specs.Prelude.{◌≡◌, ◌≢◌, ℕ, List, [], Option, Some, None, nat_eq, if◌then◌else◌}
use Rattle.std.specs.Ordering.{nat_cmp}
use Rattle.std.specs.BTreeMap.{get}
use Rattle.disk_face.specs.declared.Side.{Side}
use Rattle.disk_face.specs.declared.Side.TheVariants.{Primary, Secondary}
use Rattle.disk_face.specs.declared.DiskOp.{DiskOp}
use Rattle.disk_face.specs.Calls.{flight_of, bytes_sent_by}
use Rattle.disk_face.specs.View.{Act, creating, writing, syncing, Flight, Call, DiskView, by_side}
use Rattle.file_disk.specs.declared.directory.Task.{Task}
use Rattle.file_disk.specs.declared.directory.Task.TheVariants.{Create, Append, Sync}
use Rattle.file_disk.specs.declared.directory.Started.{Started}
use Rattle.file_disk.specs.declared.directory.Directory.{Directory}
use Rattle.file_disk.specs.declared.flights.Numbered.{Numbered}
use Rattle.file_disk.specs.declared.flights.Flights.{Flights}

-- what a task does to its file
abbrev pub act_of_task : {F : Type 0} → Task F → Act
act_of_task (Create path) = creating
act_of_task (Append target bytes) = writing
act_of_task (Sync target) = syncing

-- an operation in flight
abbrev pub flight_as : {F : Type 0} → Option (Started F) → Option Flight
flight_as None = None
flight_as (Some op) = Some (record { place = op.place; act = act_of_task op.task })

-- the one that stands in place, where it has that number, and else another
abbrev pub first_or : {T : Type 0} → Option (Numbered T) → ℕ → Option T → Option T
first_or None number other = other
first_or (Some first) number other = if nat_eq first.number number then Some first.op else other

-- the operation of that number in flight
abbrev pub in_flight : {T : Type 0} → Flights T → ℕ → Option T
in_flight flights number = first_or flights.first number (get nat_cmp flights.others number)

-- the operation of that number in flight in a directory
abbrev pub flight_numbered : {F : Type 0} → Directory F → ℕ → Option Flight
flight_numbered directory number = flight_as (in_flight directory.flights number)

-- the task is that of the operation
abbrev pub IsTaskOf : {F : Type 0} → DiskOp → Started F → Type 0
IsTaskOf op started = flight_as (Some started) ≡ Some (flight_of op)

-- the bytes that a task puts at the end of its file
abbrev pub bytes_of_task : {F : Type 0} → Task F → List ℕ
bytes_of_task (Create path) = []
bytes_of_task (Append target bytes) = bytes.items
bytes_of_task (Sync target) = []

-- the task puts the bytes of the operation at the end of its file
abbrev pub HasBytesOf : {F : Type 0} → DiskOp → Started F → Type 0
HasBytesOf op started = bytes_of_task started.task ≡ bytes_sent_by op

-- the operation is in flight in the directory, by that number
abbrev pub HasInFlight : {F : Type 0} → DiskOp → Directory F → ℕ → Type 0
HasInFlight op directory number = flight_numbered directory number ≡ Some (flight_of op)

-- nothing is in flight in the directory by that number
abbrev pub HasNoFlight : {F : Type 0} → Directory F → ℕ → Type 0
HasNoFlight directory number = flight_numbered directory number ≡ None

-- what is in flight in the directory stays
abbrev pub SameFlights : {F : Type 0} → Directory F → Directory F → Type 0
SameFlights old new = (q : ℕ) → flight_numbered new q ≡ flight_numbered old q

-- what is in flight in the directory by another number stays
abbrev pub OtherFlightsStay : {F : Type 0} → ℕ → Directory F → Directory F → Type 0
OtherFlightsStay number old new = (q : ℕ) → q ≢ number → flight_numbered new q ≡ flight_numbered old q

-- the directory of that side
abbrev pub directory_of : {F : Type 0} → Directory F → Directory F → Side → Directory F
directory_of primary secondary Primary = primary
directory_of primary secondary Secondary = secondary

-- what the two mean together: after these calls: they tell no file, and never stall
abbrev pub file_view : {F : Type 0} → Directory F → Directory F → List Call → DiskView
file_view primary secondary calls = record {
  faults = by_side primary.faults secondary.faults;
  polls_left = λ side. 0;
  in_flight = λ id. flight_numbered (directory_of primary secondary id.side) id.number;
  clock = 0;
  history = λ k p. None;
  calls = calls;
}
