-- Batches in the order of their numbers.
use Rattle.batch_repr.proofs.Laws.{end_append}
use Rattle.std.proofs.Common.{ℕ, ◌≤◌, ◌<◌, List, [], ◌∷◌, ◌++◌, arith}
use Rattle.batch_repr.specs.declared.batch.Batch.{Batch}
use Rattle.batch_repr.specs.Batches.{count_of, end_of, end_after}
use Rattle.segment_merge.specs.Merging.{AscendByNumber}
use Rattle.segment_merge.specs.Keeping.{AreKept}

pub ascending_push : (from : ℕ) (batches : List Batch) (batch : Batch) → AscendByNumber from batches → end_after from batches ≤ batch.first
    → 0 < count_of batch.entries
    → AscendByNumber from (batches ++ batch ∷ [])
unfolding AscendByNumber end_after
ascending_push from [] batch up below some = (below, some, tt)
ascending_push from (b ∷ batches) batch up below some = (up.0, up.1, ascending_push (end_of b) batches batch up.2 below some)

-- one batch more is kept
pub kept_push : (batches : List Batch) (next : ℕ) (batch : Batch) → AreKept batches next → next ≤ batch.first → 0 < count_of batch.entries
    → AreKept (batches ++ batch ∷ []) (end_of batch)
unfolding end_after
kept_push batches next batch k below some = record {
  ascending = ascending_push 0 batches batch k.ascending (omega (arith, k.below, below)) some;
  below = omega (arith, end_append 0 batches (batch ∷ []));
}

pub kept_none : (next : ℕ) → AreKept [] next
unfolding AscendByNumber end_after
kept_none next = record { ascending = tt; below = omega arith }
