-- Batches that are kept as the list that they are: one batch more.
use Rattle.batch_repr.proofs.Laws.{contiguous_append, end_append, end_push}
use Rattle.std.proofs.Common.{◌≡◌, ℕ, ◌+◌, ◌≤◌, ◌<◌, List, [], ◌∷◌, ◌++◌, length, take, get_or, refl, sym, ap, ◌∙◌, subst, arith}
use Rattle.std.proofs.lemmas.List.{take_more}
use Rattle.batch_repr.specs.declared.batch.Batch.{Batch}
use Rattle.batch_repr.specs.Batches.{end_of, end_after, IsContiguous}
use Rattle.segment_merge.specs.Rows.{IsNumbered}
use Rattle.segment_merge.specs.Merging.{AscendByNumber}
use Rattle.segment_merge.specs.Keeping.{IsWholeFrom, IsAscendingFrom}
use Rattle.segment_merge.proofs.Ascending.{ascending_push}

-- ---- without gaps

pub whole_none : (from : ℕ) → IsWholeFrom from [] from
unfolding IsContiguous end_after
whole_none from = record { contiguous = tt; end_is = refl }

whole_push : (from : ℕ) (batches : List Batch) (batch : Batch) (next : ℕ) → IsNumbered batch → IsWholeFrom from batches next
    → batch.first ≡ next → IsWholeFrom from (batches ++ batch ∷ []) (end_of batch)
unfolding IsContiguous
whole_push from batches batch next numbered w at = record {
  contiguous = contiguous_append from batches (batch ∷ []) w.contiguous (at ∙ w.end_is, numbered.some, tt);
  end_is = sym (end_push from batches batch);
}

-- the batch at a place is after those before it
module _ (batches : List Batch) (i : ℕ) (batch : Batch) (below : i < length batches) (is : batch ≡ get_or batches i batch) where
  front_more : take i batches ++ batch ∷ [] ≡ take (i + 1) batches
  front_more = ap (λ (b : Batch). take i batches ++ b ∷ []) is ∙ sym (take_more batches i batch below)

  pub whole_more : (from next : ℕ) → IsNumbered batch → IsWholeFrom from (take i batches) next → batch.first ≡ next
      → IsWholeFrom from (take (i + 1) batches) (end_of batch)
  whole_more from next numbered w at = subst (λ bs. IsWholeFrom from bs (end_of batch)) front_more
      (whole_push from (take i batches) batch next numbered w at)

  pub ascending_more : (from next : ℕ) → IsNumbered batch → IsAscendingFrom from (take i batches) next → next ≤ batch.first
      → IsAscendingFrom from (take (i + 1) batches) (end_of batch)
  ascending_more from next numbered w at = subst (λ bs. IsAscendingFrom from bs (end_of batch)) front_more (record {
    ascending = ascending_push from (take i batches) batch w.ascending (omega (arith, at, w.end_is)) numbered.some;
    end_is = sym (end_push from (take i batches) batch);
  })

-- ---- with gaps

pub ascending_none : (from : ℕ) → IsAscendingFrom from [] from
unfolding AscendByNumber end_after
ascending_none from = record { ascending = tt; end_is = refl }

-- what is contiguous is in the order of the numbers
pub run_ascends : (from : ℕ) (batches : List Batch) → IsContiguous from batches → AscendByNumber from batches
unfolding IsContiguous AscendByNumber
run_ascends from [] run = tt
run_ascends from (batch ∷ batches) run = (omega (arith, run.0), run.1, run_ascends (end_of batch) batches run.2)

-- what begins at or above a number is in the order of the numbers from 0 on, and ends at or below what comes next
pub ascends_from_0 : (from : ℕ) (batches : List Batch) → AscendByNumber from batches → AscendByNumber 0 batches
unfolding AscendByNumber
ascends_from_0 from [] up = tt
ascends_from_0 from (batch ∷ batches) up = (omega arith, up.1, up.2)

pub ends_below : (from : ℕ) (batches : List Batch) → end_after 0 batches ≤ end_after from batches
unfolding end_after
ends_below from [] = omega arith
ends_below from (batch ∷ batches) = omega arith
