-- No batch is a row, and ends where it begins.
use Rattle.std.proofs.Common.{◌≡◌, ◌≤◌, List, [], refl, sym, subst, arith}
use Rattle.batch_repr.specs.declared.batch.Batch.{Batch}
use Rattle.batch_repr.specs.declared.limits.TheConstants.{NUMBER_MAX}
use Rattle.batch_repr.specs.Batches.{IsContiguous, end_after}
use Rattle.snapshot_view.proofs.tests.Row.new.Goals as goal

no_row : IsContiguous 10 [] × (10 ≡ end_after 10 []) × (10 ≤ NUMBER_MAX)
unfolding IsContiguous end_after
no_row = (tt, refl, omega arith)

pub invariant_of-result : goal.invariant_of-result
invariant_of-result c =
    subst (λ (bs : List Batch). IsContiguous 10 bs × (10 ≡ end_after 10 bs) × (10 ≤ NUMBER_MAX)) (sym c.new.ensures) no_row
