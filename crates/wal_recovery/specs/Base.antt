-- Batches that are there already, and recovery that goes on from them (docs/formats/journal.md, "Recovery").
use Rattle.std.specs.Prelude.{◌≡◌, ℕ, List, [], ◌∷◌, ◌++◌, All}
use Rattle.batch_repr.specs.declared.batch.Batch.{Batch}
use Rattle.batch_repr.specs.Batches.{end_after, IsContiguous}
use Rattle.batch_repr.specs.Building.{FitsBatch}
use Rattle.segment_merge.specs.declared.segment.SegmentRead.{SegmentRead}
use Rattle.disk_face.specs.View.{Dirs}
use Rattle.wal_recovery.specs.Recovering.{RecoversFrom}

-- The batches are numbered one after another, and end before this number.
pub record IsBaseOf (number : ℕ) (base : List Batch) : Type 0 where
  pub from : ℕ
  pub contiguous : IsContiguous from base
  pub ends : end_after from base ≡ number

-- the base as the front of a row: one segment, and none where it has no batch
abbrev pub front_of : List Batch → List SegmentRead
front_of [] = []
front_of (batch ∷ base) = record { index = 0; batches = batch ∷ base } ∷ []

-- The batches begin with those of the base.
abbrev pub BeginsWith : List Batch → List Batch → Type 0
BeginsWith base batches = (more : List Batch) × (batches ≡ base ++ more)

-- The batches are the base, and behind it those to which the directories recover from this number on.
pub record RecoversOnto (first : ℕ) (base : List Batch) (dirs : Dirs) (batches : List Batch) : Type 0 where
  pub merged : List Batch
  pub recovers : RecoversFrom first dirs merged
  pub behind : batches ≡ base ++ merged

-- The batches are the base, and behind it some that are numbered from this number on with no gap.
pub record GoesOnFrom (first : ℕ) (base batches : List Batch) : Type 0 where
  pub merged : List Batch
  pub contiguous : IsContiguous first merged
  pub behind : batches ≡ base ++ merged

-- The batch is within the limits: its entries fit one.
abbrev pub IsBatchWithin : Batch → Type 0
IsBatchWithin batch = FitsBatch batch.entries

-- Each of them is.
abbrev pub AreWithinLimits : List Batch → Type 0
AreWithinLimits batches = All IsBatchWithin batches
