-- What the directories recover to (docs/formats/journal.md, "Recovery").
use Rattle.batch_repr.specs.declared.limits.TheConstants.{NUMBER_FIRST}
use Rattle.std.specs.Prelude.{◌≡◌, ℕ, Bool, Option, None, List, [], ◌∷◌, ◌++◌, nat_lt}
use Rattle.std.specs.List.{filter, AllZip}
use Rattle.disk_face.specs.Image.{log_number}
use Rattle.batch_repr.specs.declared.batch.Batch.{Batch}
use Rattle.batch_repr.specs.Batches.{count_of, end_after}
use Rattle.batch_repr.specs.Spelling.{SpellsBatch}
use Rattle.block_record.specs.declared.records.ReadOut.{ReadOut}
use Rattle.block_record.specs.declared.records.Rec.{Rec}
use Rattle.block_record.specs.declared.records.Shown.{Shown}
use Rattle.block_record.specs.ReadOut.{ReadsOut}
use Rattle.segment_merge.specs.declared.segment.SegmentRead.{SegmentRead}
use Rattle.segment_merge.specs.Rows.{batches_in}
use Rattle.segment_merge.specs.Merging.{Merged}
use Rattle.segment_merge.specs.Lenient.{MergedLenient}
use Rattle.disk_face.specs.View.{Dirs}
use Rattle.wal_recovery.specs.declared.reports.Mode.{Mode}
use Rattle.wal_recovery.specs.declared.reports.Mode.TheVariants.{Strict, Lenient}
use Rattle.wal_recovery.specs.Listing.{Stored, Wal, IsListingOf}

abbrev pub takes_number : Batch → Bool
takes_number batch = nat_lt 0 (count_of batch.entries)

-- the batches that take a number
abbrev pub taking_numbers : List Batch → List Batch
taking_numbers batches = filter takes_number batches

-- Each record spells a batch.
abbrev pub Spell : List Rec → List Batch → Type 0
Spell records batches = AllZip (λ (r : Rec) (b : Batch). SpellsBatch r.bytes b) records batches

-- What shows a segment corrupt is passed over where gaps are accepted, and only there.
abbrev pub PassesOver : Mode → Option Shown → Type 0
PassesOver Strict shown = shown ≡ None
PassesOver Lenient shown = Unit {0}

-- The segment reads as records that spell batches, and these are those of them that take a number. Nothing shows it corrupt, or
-- gaps are accepted.
pub record HoldsBatches (mode : Mode) (log : ℕ) (content : List ℕ) (batches : List Batch) : Type 0 where
  pub read : ReadOut
  pub reads : ReadsOut content log read
  pub passes : PassesOver mode read.shown
  pub all : List Batch
  pub spelled : Spell read.records all
  pub counted_are : batches ≡ taking_numbers all

-- Each segment holds a list of batches.
abbrev pub HoldRow : Mode → ℕ → List Stored → List (List Batch) → Type 0
HoldRow mode log segments row = AllZip (λ (s : Stored) (batches : List Batch). HoldsBatches mode log s.content batches) segments row

-- The segments of a WAL merge to these batches, from this number on.
pub record WalMerges (first : ℕ) (wal : Wal) (merged : List Batch) : Type 0 where
  pub row : List (List Batch)
  pub holds : HoldRow Strict (log_number wal.number) wal.segments row
  pub merges : Merged first row merged

-- WAL by WAL, each from the end of what was merged before it.
unfoldable pub WalsMerge : ℕ → List Wal → List Batch → Type 0
WalsMerge first [] merged = merged ≡ []
WalsMerge first (wal ∷ wals) merged =
    (own : List Batch) × (later : List Batch) × WalMerges first wal own × WalsMerge (end_after first own) wals later × (merged ≡ own ++ later)

-- The directories recover, from this number on and with no gap, to these batches.
pub record RecoversFrom (first : ℕ) (dirs : Dirs) (merged : List Batch) : Type 0 where
  pub wals : List Wal
  pub listed : IsListingOf dirs wals
  pub merges : WalsMerge first wals merged

-- The directories recover, with no gap, to these batches.
abbrev pub Recovers : Dirs → List Batch → Type 0
Recovers = RecoversFrom NUMBER_FIRST

-- ---- where gaps are accepted

-- Each WAL's segments hold these rows, one row after another.
unfoldable pub HoldAll : List Wal → List (List Batch) → Type 0
HoldAll [] rows = rows ≡ []
HoldAll (wal ∷ wals) rows =
    (own : List (List Batch)) × (later : List (List Batch)) × HoldRow Lenient (log_number wal.number) wal.segments own
    × HoldAll wals later × (rows ≡ own ++ later)

-- The directories recover, with gaps, to these batches: the segments of all WALs are merged as one row, behind those of the front.
pub record RecoversLenientAfter (front : List SegmentRead) (dirs : Dirs) (merged : List Batch) : Type 0 where
  pub wals : List Wal
  pub listed : IsListingOf dirs wals
  pub rows : List (List Batch)
  pub hold : HoldAll wals rows
  pub merges : MergedLenient (batches_in front ++ rows) merged

-- The directories recover, with gaps, to these batches.
abbrev pub RecoversLenient : Dirs → List Batch → Type 0
RecoversLenient = RecoversLenientAfter []
