-- Laws of streams, each as one statement (docs/formats/ship.md, "Following").
use Rattle.std.specs.Prelude.{◌≡◌, ◌⊎◌, ◌↔◌, ℕ, ◌<◌, List, [], ◌∷◌, ◌++◌, All, Contains, None, true, take}
use Rattle.batch_repr.specs.declared.batch.Batch.{Batch}
use Rattle.batch_repr.specs.declared.limits.TheConstants.{NUMBER_FIRST}
use Rattle.batch_repr.specs.Batches.{count_of, IsContiguous}
use Rattle.batch_repr.specs.Building.{HasSpelling}
use Rattle.wal_ship.specs.Stream.{stream_of}
use Rattle.wal_ship.specs.Following.{AreFrames, AreRight, Comes, Following, HasTakenBytes, IsFrameOf}

-- Followers beside the same batches that have taken the same bytes have taken the same batches, ended or not, and met the same fault.
abbrev pub BytesComeToOne : Type 0
BytesComeToOne = (one other : Following) (bytes : List ℕ) → one.local ≡ other.local → HasTakenBytes one bytes → HasTakenBytes other bytes
    → (one.taken ≡ other.taken) × (one.ended ≡ other.ended) × (one.fault ≡ other.fault)

-- Where bytes begin with right frames of some batches, a follower that has taken them knows these first, and maybe more.
abbrev pub RowsAreTaken : Type 0
RowsAreTaken = (follower : Following) (front rest : List ℕ) (known : List Batch) → AreRight follower.local front known
    → HasTakenBytes follower (front ++ rest) → (more : List Batch) × (follower.local ++ follower.taken ≡ known ++ more)

-- The stream of a store, beside the first batches of that store, comes to the whole store, and ends.
abbrev pub StreamsAreTaken : Type 0
StreamsAreTaken = (batches : List Batch) (count : ℕ) → IsContiguous NUMBER_FIRST batches → All HasSpelling batches
    → Comes (take count batches) (stream_of batches) batches [] true None

-- The bytes are right frames of these batches, one after another.
pub data SpellFrames : List ℕ → List Batch → Type 0 where
  no_frame : SpellFrames [] []
  one_frame : (frame bytes : List ℕ) (batch : Batch) (batches : List Batch) → IsFrameOf frame batch → SpellFrames bytes batches
      → SpellFrames (frame ++ bytes) (batch ∷ batches)

-- As a set, what is known behind right frames is what was known, and those of the frames' batches that take a number.
abbrev pub FramesAreUnion : Type 0
FramesAreUnion = (known all : List Batch) (bytes : List ℕ) (batches : List Batch) → AreFrames known bytes all → SpellFrames bytes batches
    → (batch : Batch) → Contains all batch ↔ (Contains known batch ⊎ (Contains batches batch × (0 < count_of batch.entries)))
