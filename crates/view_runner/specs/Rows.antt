-- The batches of the tests. Nothing of it is seen from outside.
use Rattle.std.specs.Prelude.{◌≡◌, ℕ, ◌≤◌, List}
use Rattle.batch_repr.specs.declared.batch.Batch.{Batch}
use Rattle.batch_repr.specs.declared.limits.TheConstants.{NUMBER_MAX}
use Rattle.batch_repr.specs.Batches.{IsContiguous, end_after}

-- The batches are in a row from 10 on, and this number comes after them.
pub record IsTestRow (batches : List Batch) (next : ℕ) : Type 0 where
  pub row : IsContiguous 10 batches
  pub next_is : next ≡ end_after 10 batches
  pub small : next ≤ NUMBER_MAX
