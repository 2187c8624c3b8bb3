-- What a merge has kept so far (docs/formats/journal.md, "Merging").
use Rattle.std.specs.Prelude.{◌≡◌, ℕ, ◌≤◌, List}
use Rattle.batch_repr.specs.declared.batch.Batch.{Batch}
use Rattle.batch_repr.specs.Batches.{end_after, IsContiguous}
use Rattle.segment_merge.specs.Merging.{AscendByNumber}

-- the batches, and the number that comes next
pub record Kept : Type 0 where
  pub batches : List Batch
  pub next : ℕ

-- They are in the order of their numbers, and end at or below the number that comes next.
pub record AreKept (batches : List Batch) (next : ℕ) : Type 0 where
  pub ascending : AscendByNumber 0 batches
  pub below : end_after 0 batches ≤ next

-- They are contiguous from a number on, and this comes after them.
pub record IsWholeFrom (from : ℕ) (batches : List Batch) (end : ℕ) : Type 0 where
  pub contiguous : IsContiguous from batches
  pub end_is : end ≡ end_after from batches

-- They are in the order of their numbers from one on, and this comes after them.
pub record IsAscendingFrom (from : ℕ) (batches : List Batch) (end : ℕ) : Type 0 where
  pub ascending : AscendByNumber from batches
  pub end_is : end ≡ end_after from batches
