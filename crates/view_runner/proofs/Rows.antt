-- The batches of the tests are in a row.
use Rattle.std.proofs.Common.{◌≡◌, ℕ, ◌+◌, ◌<◌, List, [], ◌∷◌, ◌++◌, refl, sym, ◌∙◌, subst, arith}
use Rattle.batch_repr.specs.declared.batch.Batch.{Batch}
use Rattle.batch_repr.specs.Batches.{count_of, IsContiguous, end_after}
use Rattle.batch_repr.proofs.Laws.{contiguous_push, end_push, end_up}
use Rattle.snapshot_view.specs.Views.{CanBeViewed}
use Rattle.view_runner.specs.Rows.{IsTestRow}

pub no_row : (batches : List Batch) → batches ≡ [] → IsTestRow batches 10
unfolding IsContiguous end_after
no_row batches is = subst (λ (bs : List Batch). IsTestRow bs 10) (sym is) (record { row = tt; next_is = refl; small = omega arith })

pub row_more : (batches : List Batch) (batch : Batch) (next count : ℕ) → IsTestRow batches next → batch.first ≡ next → count ≡ count_of batch.entries
    → 0 < count → next < 1000000 → count < 1000000 → IsTestRow (batches ++ batch ∷ []) (next + count)
row_more batches batch next count is first counted some low few =
    record {
      row = contiguous_push 10 batches batch is.row (first ∙ is.next_is) (omega (arith, counted, some));
      next_is = let ends = end_push 10 batches batch in omega (arith, ends, first, counted);
      small = omega (arith, low, few);
    }

pub can_be_viewed : (batches : List Batch) (next : ℕ) → IsTestRow batches next → CanBeViewed batches 10
can_be_viewed batches next is = record {
  start = 10;
  row = is.row;
  from = omega arith;
  to = end_up 10 batches is.row;
  small = λ some. omega (arith, is.next_is, is.small);
}
