-- What the segments of a WAL give once they are merged (docs/formats/journal.md, "Merging").
use Rattle.std.specs.Prelude.{ℕ, ◌<◌, ◌≤◌, ◌↔◌, max, List, [], ◌∷◌, Contains}
use Rattle.std.specs.List.{flat_map}
use Rattle.batch_repr.specs.declared.batch.Batch.{Batch}
use Rattle.batch_repr.specs.Batches.{count_of, end_of, IsContiguous}

-- the batches of all segments, one segment after another
abbrev pub all_of : List (List Batch) → List Batch
all_of segments = flat_map (λ segment. segment) segments

-- the greatest end of the batches, or this number where no end is above it
unfoldable pub greatest_end : ℕ → List Batch → ℕ
greatest_end bound [] = bound
greatest_end bound (batch ∷ batches) = greatest_end (max bound (end_of batch)) batches

-- A segment is empty, or contiguous from its own first number, which is at most this one.
abbrev pub BeginsBy : ℕ → List Batch → Type 0
BeginsBy bound [] = Unit {0}
BeginsBy bound (batch ∷ batches) = (batch.first ≤ bound) × IsContiguous batch.first (batch ∷ batches)

-- Each segment begins at most at the greatest end of those before it.
unfoldable pub AreSegmentsJoined : ℕ → List (List Batch) → Type 0
AreSegmentsJoined bound [] = Unit {0}
AreSegmentsJoined bound (segment ∷ segments) = BeginsBy bound segment × AreSegmentsJoined (greatest_end bound segment) segments

-- The merged list of the segments: contiguous from this number, and as a set the batches of all segments.
pub record Merged (first : ℕ) (segments : List (List Batch)) (merged : List Batch) : Type 0 where
  pub contiguous : IsContiguous first merged
  pub same : (batch : Batch) → Contains merged batch ↔ Contains (all_of segments) batch
  pub joined : AreSegmentsJoined first segments

-- Each batch takes a number, and begins at or above the end of the one before it.
unfoldable pub AscendByNumber : ℕ → List Batch → Type 0
AscendByNumber from [] = Unit {0}
AscendByNumber from (batch ∷ batches) = (from ≤ batch.first) × (0 < count_of batch.entries) × AscendByNumber (end_of batch) batches
