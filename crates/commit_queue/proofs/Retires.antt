-- A seat that goes back into the producer's keeps the rule of the table.
use Rattle.std.proofs.Common.{◌≡◌, ℕ, [], inr}
use Rattle.atomic_table.specs.Table.{Joins}
use Rattle.publish_core.specs.declared.seat.Kind.TheVariants.{Worker}
use Rattle.publish_core.specs.declared.seat.Claim.TheVariants.{Free}
use Rattle.commit_queue.specs.declared.pipe_table.TableOpening.{TableOpening}
use Rattle.commit_queue.specs.declared.view.View.{View}
use Rattle.commit_queue.specs.Rule.{Linked}
use Rattle.commit_queue.specs.Seats.{HoldsNothing}
use Rattle.commit_queue.specs.Views.{joined_view, spent_view}
use Rattle.commit_queue.proofs.SplitsAndJoins.{joins}

module _ (o : TableOpening) where
  pub retires_into : (id : ℕ) (v : View) (other : ℕ) (w : View) → id ≡ 0 → w.seat.kind ≡ Worker → w.seat.claim ≡ Free → HoldsNothing w
      → (v.absorbed ≡ []) × (w.absorbed ≡ []) → Joins (Linked o) id v other w (joined_view v w) spent_view
  retires_into id v other w zero worker free idle calm = joins o id v other w (inr (zero, worker, idle.0, idle.1, free)) calm
