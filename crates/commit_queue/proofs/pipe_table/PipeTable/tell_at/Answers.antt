use Rattle.std.proofs.Common.{arith, ◌≡◌}
use Rattle.publish_core.specs.declared.seat.Kind.TheVariants.{Note, Producer}
use Rattle.commit_queue.proofs.Becomes.{acts_live}
use Rattle.commit_queue.proofs.SplitsAndJoins.{tells}
use Rattle.commit_queue.proofs.pipe_table.PipeTable.tell_at.Goals as goal

pub split_seat-requires : goal.split_seat-requires
split_seat-requires c = let q = c.requires in (
  q.table,
  (let w = c.args.self.now.words in omega arith),
  tells _ Note _ c.args.seat.now.me.0 (λ (e : Note ≡ Producer). cc)
      (acts_live c.args.seat.now.me.0.seat q.acts),
)
