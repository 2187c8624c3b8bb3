-- How a follower takes a stream: what holds of its fields, and what each step comes to. Nothing of it is seen from outside.
use Rattle.std.specs.Prelude.{◌≡◌, ◌≢◌, ◌⊎◌, ℕ, ◌+◌, ◌<◌, ◌≤◌, List, [], ◌++◌, All, Option, Some, None, length}
use Rattle.batch_repr.specs.declared.batch.Batch.{Batch}
use Rattle.batch_repr.specs.declared.limits.TheConstants.{BATCH_MAX, NUMBER_FIRST, NUMBER_MAX}
use Rattle.batch_repr.specs.Batches.{count_of, IsContiguous}
use Rattle.batch_repr.specs.Building.{HasSpelling}
use Rattle.wal_ship.specs.declared.fault.FollowFault.TheVariants as faults
use Rattle.wal_ship.specs.declared.follower.Course.{Course}
use Rattle.wal_ship.specs.declared.follower.Course.TheVariants.{Open, Ended, Wrong}
use Rattle.wal_ship.specs.declared.frame.Frame.{Frame}
use Rattle.wal_ship.specs.declared.frame.Frame.TheVariants as frames
use Rattle.wal_ship.specs.Stream.{end_mark}
use Rattle.wal_ship.specs.Following.{Following, IsBegun, IsFrameOf, IsWrongNext, Joins, len_said, next_after, ShowsFault, TakesFront}
use Rattle.wal_ship.specs.Course.{fault_in}

-- The batches that were there and those taken are contiguous from the first number on, and this comes next.
pub record AreOneRun (local taken : List Batch) (next : ℕ) : Type 0 where
  pub contiguous : IsContiguous NUMBER_FIRST (local ++ taken)
  pub next_is : next ≡ next_after (local ++ taken)
  pub within : next ≤ NUMBER_MAX

-- They are one run, and each batch that was taken has a spelling.
pub record IsTakenRun (local taken : List Batch) (next : ℕ) : Type 0 where
  pub run : AreOneRun local taken next
  pub spelled : All HasSpelling taken

-- Nothing of a frame is kept where no more is taken.
abbrev pub KeepsFrame : Course → List ℕ → Type 0
KeepsFrame Open frame = Unit {0}
KeepsFrame course frame = frame ≡ []

-- The bytes kept are of a frame that is begun, behind the first eight.
pub record IsKeptFrame (frame : List ℕ) (fed : ℕ) (course : Course) : Type 0 where
  pub begun : IsBegun frame
  pub behind : length frame ≤ fed
  pub early : fed < 8 → frame ≡ []
  pub kept : KeepsFrame course frame
  pub fault : fault_in course ≢ Some faults.NoMemory

-- A frame is not longer than it says, once it says so.
abbrev pub IsAtMostWhole : List ℕ → Type 0
IsAtMostWhole frame = 4 < length frame → (len_said frame ≤ BATCH_MAX) × (length frame ≤ 8 + len_said frame)

-- What a batch is to those that are known.
abbrev pub Judges : List Batch → ℕ → Batch → Frame → Type 0
Judges known at batch frames.Known = Joins known batch known
Judges known at batch (frames.New new) = (new ≡ batch) × (0 < count_of batch.entries) × (batch.first ≡ next_after known)
Judges known at batch (frames.Wrong fault) = IsWrongNext known at batch fault
Judges known at batch _ = ⊥

-- What the bytes of a frame say, behind batches that are known.
abbrev pub Reads : List Batch → ℕ → List ℕ → Frame → Type 0
Reads known at bytes frames.Begun = IsBegun bytes
Reads known at bytes frames.End = bytes ≡ end_mark
Reads known at bytes frames.Known = (batch : Batch) × IsFrameOf bytes batch × Joins known batch known
Reads known at bytes (frames.New batch) = IsFrameOf bytes batch × (0 < count_of batch.entries) × (batch.first ≡ next_after known)
Reads known at bytes (frames.Wrong fault) = ShowsFault known at bytes fault

-- Where a frame leads, that turns the batches which are known from one list into another.
abbrev pub Leads : List Batch → List Batch → ℕ → List ℕ → Option Course → Type 0
Leads old new at bytes None = IsBegun bytes × (new ≡ old)
Leads old new at bytes (Some Open) = (batch : Batch) × IsFrameOf bytes batch × Joins old batch new
Leads old new at bytes (Some Ended) = (bytes ≡ end_mark) × (new ≡ old)
Leads old new at bytes (Some (Wrong fault)) = ShowsFault old at bytes fault × (new ≡ old)

-- The same, where so much of the frame is kept: all while more of it is wanted, and then nothing.
abbrev pub PassesFrame : List Batch → List Batch → ℕ → List ℕ → List ℕ → Course → Type 0
PassesFrame old new at bytes kept course = (Leads old new at bytes None × (kept ≡ bytes) × (course ≡ Open))
    ⊎ (Leads old new at bytes (Some course) × (kept ≡ []))

-- A follower has taken so many bytes from the front of a piece, one at least.
pub record TakesBytes (old new : Following) (piece : List ℕ) (count : ℕ) : Type 0 where
  pub some : 0 < count
  pub within : count ≤ length piece
  pub fed : new.fed ≡ old.fed + count
  pub local : new.local ≡ old.local
  pub takes : TakesFront old new piece count
