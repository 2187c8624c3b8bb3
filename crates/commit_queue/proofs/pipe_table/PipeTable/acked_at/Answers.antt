use Rattle.std.proofs.Common.{arith, ◌≡◌, ◌∙◌, sym, ℕ, Option, None, Some}
use Rattle.commit_queue.proofs.Acked.{sees_acked}
use Rattle.commit_queue.proofs.pipe_table.PipeTable.acked_at.Goals as goal

pub load-requires : goal.load-requires
load-requires c = (
  c.requires.table,
  (let w = c.args.self.now.words in omega arith),
  sees_acked _ _ _ c.args.seat.now.me c.requires.acts
      (λ m e. let z : ◌≡◌ {A = Option ℕ} None (Some m) = sym c.requires.calm ∙ e in cc),
)
