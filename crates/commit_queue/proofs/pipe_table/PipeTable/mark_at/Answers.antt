use Rattle.std.proofs.Common.{arith, ◌*◌, ◌+◌, refl, ap}
use Rattle.commit_queue.proofs.Publishes.{marks}
use Rattle.commit_queue.proofs.pipe_table.PipeTable.mark_at.Goals as goal

pub store-requires : goal.store-requires
store-requires c = let q = c.requires in (
  q.table,
  (let w = c.args.self.now.words in omega arith),
  marks _ _ _ _ _ _ c.args.index refl q.acts q.holds q.admitted q.calm q.applied (ap (λ x. 2 * x + 1) q.end),
)
