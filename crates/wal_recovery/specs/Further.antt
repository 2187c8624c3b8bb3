-- One more WAL in the directories (docs/formats/journal.md, "What a stop leaves of a journal").
use Rattle.std.specs.Prelude.{◌≡◌, ◌≢◌, ◌↔◌, ℕ, ◌<◌, List, Contains}
use Rattle.batch_repr.specs.declared.batch.Batch.{Batch}
use Rattle.disk_face.specs.declared.FilePlace.TheVariants.{Segment, Table}
use Rattle.disk_face.specs.View.{Place, Dirs}
use Rattle.wal_recovery.specs.Listing.{Stored, AreByIndex, StandsIn}
use Rattle.wal_recovery.specs.Recovering.{WalMerges}

-- the place is not of this WAL
abbrev pub IsElsewhere : ℕ → Place → Type 0
IsElsewhere wal (Segment side name) = name.wal ≢ wal
IsElsewhere wal (Table upto) = Unit {0}

-- Every file but the segments of this WAL is as in these directories.
abbrev pub IsSameElsewhere : ℕ → Dirs → Dirs → Type 0
IsSameElsewhere wal dirs others = (p : Place) → IsElsewhere wal p → dirs p ≡ others p

-- Each segment of the directories is of a lower WAL.
abbrev pub StandBelow : ℕ → Dirs → Type 0
StandBelow wal dirs = (number : ℕ) (stored : Stored) → StandsIn dirs number stored → number < wal

-- These are the segments of the WAL in the directories, by their indexes.
pub record AreSegmentsOf (dirs : Dirs) (wal : ℕ) (segments : List Stored) : Type 0 where
  pub order : AreByIndex 0 segments
  pub same : (stored : Stored) → Contains segments stored ↔ StandsIn dirs wal stored

-- The segments of the WAL, each read out, merge to these batches, from this number on.
pub record SegmentsMerge (dirs : Dirs) (wal first : ℕ) (batches : List Batch) : Type 0 where
  pub segments : List Stored
  pub are : AreSegmentsOf dirs wal segments
  pub merges : WalMerges first (record { number = wal; segments = segments }) batches
