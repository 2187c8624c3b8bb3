use Rattle.std.proofs.Common.{arith, ◌≡◌, ◌∙◌, ℕ, ap, inr}
use Rattle.publish_core.specs.declared.seat.Kind.TheVariants.{Worker}
use Rattle.commit_queue.specs.declared.view.View.{View}
use Rattle.commit_queue.specs.Views.{raising_view}
use Rattle.commit_queue.specs.Tells.{high, low}
use Rattle.commit_queue.proofs.Becomes.{acts_live}
use Rattle.commit_queue.proofs.Publishes.{sees_ends}
use Rattle.commit_queue.proofs.Acked.{raises_acked}
use Rattle.commit_queue.proofs.pipe_table.PipeTable.raise_acked_at.Goals as goal

pub load-both-requires : goal.load-both-requires
load-both-requires c =
    (c.requires.table, (let w = c.args.self.now.words in omega arith), sees_ends _ _ _ c.args.seat.now.me (inr c.requires.worker))

pub fetch_max-requires : goal.fetch_max-requires
fetch_max-requires c = let e = c.load-both.ensures.2.1 in let r : ℕ = c.load-both.result in
    let live : c.load-both.new.seat.me.0.seat.kind ≡ Worker = ap (λ (v : View). v.seat.kind) e ∙ c.requires.worker in
    let least = c.min-to.ensures in (
      c.load-both.ensures.0 ∙ c.requires.table,
      (let w = c.args.self.now.words in omega arith),
      raises_acked _ _ _ c.load-both.new.seat.me c.min-to.result (high r) (low r)
          (ap (λ (v : View). v.acked_known.is_flush) e ∙ c.requires.flush) (acts_live c.load-both.new.seat.me.0.seat (inr live))
          (ap (λ (v : View). v.seat.loaded) e) (omega arith),
    )

pub returns-clause-raised : goal.returns-clause-raised
returns-clause-raised c = let e = c.load-both.ensures.2.1 in let r : ℕ = c.load-both.result in
    (high r, low r, c.min-to.ensures, c.fetch_max.ensures.2.1 ∙ ap (λ (v : View). raising_view v c.min-to.result) e)
