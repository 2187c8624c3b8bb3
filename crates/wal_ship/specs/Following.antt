-- What a stream comes to as far as it was fed: the batches of its right frames, and its first fault (docs/formats/ship.md,
-- "Following").
use Rattle.std.specs.Prelude.{◌≡◌, ◌≢◌, ◌⊎◌, ℕ, ◌+◌, ◌<◌, ◌≤◌, List, [], ◌∷◌, ◌++◌, Contains, Option, Some, None, Bool, true, false, length, take, slice_index}
use Rattle.std.specs.Int.{w32, from_le_bytes}
use Rattle.batch_repr.specs.declared.batch.Batch.{Batch}
use Rattle.batch_repr.specs.declared.fault.BatchFault.{BatchFault}
use Rattle.batch_repr.specs.declared.limits.TheConstants.{BATCH_MAX, NUMBER_FIRST}
use Rattle.batch_repr.specs.Batches.{count_of, end_after}
use Rattle.batch_repr.specs.Spelling.{SpellsBatch}
use Rattle.batch_repr.specs.Reading.{IsFirstFault}
use Rattle.wal_ship.specs.declared.fault.FollowFault.{FollowFault}
use Rattle.wal_ship.specs.declared.fault.FollowFault.TheVariants as faults
use Rattle.wal_ship.specs.Stream.{magic, in_frame, end_mark}

-- the number that comes next behind batches
abbrev pub next_after : List Batch → ℕ
next_after known = end_after NUMBER_FIRST known

-- A batch joins those that are known: it takes no number, it comes next, or it is one of them.
pub data Joins (known : List Batch) (batch : Batch) : List Batch → Type 0 where
  takes_none : count_of batch.entries ≡ 0 → Joins known batch known
  comes_next : 0 < count_of batch.entries → batch.first ≡ next_after known → Joins known batch (known ++ batch ∷ [])
  there : 0 < count_of batch.entries → batch.first < next_after known → Contains known batch → Joins known batch known

-- A right frame stands there: of a text that is not empty and no longer than a batch, and spells this batch.
pub record IsFrameOf (bytes : List ℕ) (batch : Batch) : Type 0 where
  pub text : List ℕ
  pub is : bytes ≡ in_frame text
  pub some : text ≢ []
  pub size : length text ≤ BATCH_MAX
  pub spells : SpellsBatch text batch

-- Right frames stand one after another, and with their batches the first known ones become the others.
pub data AreFrames : List Batch → List ℕ → List Batch → Type 0 where
  none : (known : List Batch) → AreFrames known [] known
  more : (known : List Batch) (bytes frame : List ℕ) (batch : Batch) (joined all : List Batch) → IsFrameOf frame batch → Joins known batch joined
      → AreFrames joined bytes all → AreFrames known (frame ++ bytes) all

-- The bytes are those that a stream begins with, and right frames.
pub record AreRight (local : List Batch) (bytes : List ℕ) (known : List Batch) : Type 0 where
  pub frames : List ℕ
  pub is : bytes ≡ magic ++ frames
  pub read : AreFrames local frames known

-- the length that the first four bytes of a frame say
abbrev pub len_said : List ℕ → ℕ
len_said frame = from_le_bytes w32 (take 4 frame)

-- A frame is begun and not whole.
abbrev pub IsBegun : List ℕ → Type 0
IsBegun frame = (length frame < 4) ⊎ ((4 ≤ length frame) × (len_said frame ≤ BATCH_MAX) × (length frame < 8 + len_said frame))

-- A frame is as long as it says.
pub record IsFull (frame : List ℕ) : Type 0 where
  pub head : 8 ≤ length frame
  pub size : len_said frame ≤ BATCH_MAX
  pub long : length frame ≡ 8 + len_said frame

-- What is wrong with a batch that spells so, behind those that are known.
pub data IsWrongNext (known : List Batch) (at : ℕ) (batch : Batch) : FollowFault → Type 0 where
  gap : 0 < count_of batch.entries → next_after known < batch.first
      → IsWrongNext known at batch (faults.Gap at (next_after known) batch.first)
  conflict : 0 < count_of batch.entries → batch.first < next_after known → (Contains known batch → ⊥)
      → IsWrongNext known at batch (faults.Conflict at batch.first)

-- What is wrong with the bytes behind right frames, which end where it shows.
pub data ShowsFault (known : List Batch) (at : ℕ) : List ℕ → FollowFault → Type 0 where
  too_long : (head : List ℕ) → length head ≡ 4 → BATCH_MAX < len_said head → ShowsFault known at head (faults.Length at (len_said head))
  wrong_sum : (frame : List ℕ) → IsFull frame → ((text : List ℕ) → frame ≢ in_frame text) → ShowsFault known at frame (faults.Sum at)
  no_batch : (text : List ℕ) (fault : BatchFault) → text ≢ [] → length text ≤ BATCH_MAX → IsFirstFault text fault
      → ShowsFault known at (in_frame text) (faults.Batch at fault)
  wrong_next : (frame : List ℕ) (batch : Batch) (fault : FollowFault) → IsFrameOf frame batch → IsWrongNext known at batch fault
      → ShowsFault known at frame fault
  past_end : (byte : ℕ) → ShowsFault known at (end_mark ++ byte ∷ []) (faults.After (at + 8))

-- The bytes fed are a stream so far: where a fault shows, at its end; where the stream has ended, to its end mark; else a part of the
-- first eight bytes, or right frames and one that is begun.
pub data Comes (local : List Batch) (bytes : List ℕ) : List Batch → List ℕ → Bool → Option FollowFault → Type 0 where
  greets : (rest : List ℕ) → magic ≡ bytes ++ rest → rest ≢ [] → Comes local bytes local [] false None
  goes_on : (front frame : List ℕ) (known : List Batch) → AreRight local front known → bytes ≡ front ++ frame → IsBegun frame
      → Comes local bytes known frame false None
  ends : (front : List ℕ) (known : List Batch) → AreRight local front known → bytes ≡ front ++ end_mark → Comes local bytes known [] true None
  is_none : (at byte : ℕ) → at < 8 → bytes ≡ take at magic ++ byte ∷ [] → byte ≢ slice_index magic at
      → Comes local bytes local [] false (Some (faults.Magic at))
  is_wrong : (front bad : List ℕ) (known : List Batch) (fault : FollowFault) → AreRight local front known → bytes ≡ front ++ bad
      → ShowsFault known (length front) bad fault → Comes local bytes known [] false (Some fault)

-- ---- a follower

-- the batches that were there, those taken, how many bytes were taken, those of the frame that is begun, whether the stream ended, and
-- the fault that was met
pub record Following : Type 0 where
  pub local : List Batch
  pub taken : List Batch
  pub fed : ℕ
  pub frame : List ℕ
  pub ended : Bool
  pub fault : Option FollowFault

-- The follower has taken these bytes.
pub record HasTakenBytes (follower : Following) (bytes : List ℕ) : Type 0 where
  pub fed : follower.fed ≡ length bytes
  pub comes : Comes follower.local bytes (follower.local ++ follower.taken) follower.frame follower.ended follower.fault

-- A follower takes so many bytes from the front of a piece: whatever it had taken, it has taken that and these.
abbrev pub TakesFront : Following → Following → List ℕ → ℕ → Type 0
TakesFront old new piece count = (bytes : List ℕ) → HasTakenBytes old bytes → HasTakenBytes new (bytes ++ take count piece)
