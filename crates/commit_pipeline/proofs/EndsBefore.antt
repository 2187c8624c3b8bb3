-- The numbers of a base.
use Rattle.std.proofs.Common.{◌≡◌, ℕ, zero, suc, ◌≤◌, ◌<◌, List, [], ◌∷◌, length, take, get_or, sym, refl, arith}
use Rattle.batch_repr.specs.declared.batch.Batch.{Batch}
use Rattle.batch_repr.specs.Batches.{count_of, end_of, IsContiguous, end_after}
use Rattle.batch_repr.proofs.Laws.{end_up}
use Rattle.commit_pipeline.specs.Openings.{EndsBefore}

pub no_end : (from : ℕ) → end_after from [] ≡ from
unfolding end_after
no_end from = refl

-- Batches in a row end before the number after them.
pub ends_before : (from next : ℕ) (batches : List Batch) → IsContiguous from batches → next ≡ end_after from batches → EndsBefore batches next
unfolding IsContiguous end_after
ends_before from next [] row is = record { contiguous = tt; ends = refl }
ends_before from next (batch ∷ batches) row is = record { contiguous = (refl, row.1, row.2); ends = sym is }

pub no_base : (next : ℕ) → EndsBefore [] next
unfolding IsContiguous end_after
no_base next = record { contiguous = tt; ends = refl }

-- A batch of a base begins where those before it end, and it ends at most where all end.
pub record StandsAt (from most : ℕ) (batches : List Batch) (index : ℕ) (batch : Batch) : Type 0 where
  pub before : IsContiguous from (take index batches)
  pub first : batch.first ≡ end_after from (take index batches)
  pub some : 0 < count_of batch.entries
  pub within : end_of batch ≤ most

pub stands_at : (from most : ℕ) (batches : List Batch) (index : ℕ) (d : Batch) → IsContiguous from batches → end_after from batches ≤ most
    → index < length batches → StandsAt from most batches index (get_or batches index d)
unfolding IsContiguous end_after
stands_at from most [] index d contiguous within below = absurd (omega (arith, below))
stands_at from most (batch ∷ batches) zero d contiguous within below = record {
  before = tt;
  first = contiguous.0;
  some = contiguous.1;
  within = omega (arith, within, end_up (end_of batch) batches contiguous.2);
}
stands_at from most (batch ∷ batches) (suc index) d contiguous within below =
    let s = stands_at (end_of batch) most batches index d contiguous.2 within (omega (arith, below)) in
    record { before = (contiguous.0, contiguous.1, s.before); first = s.first; some = s.some; within = s.within }
