use Rattle.std.proofs.Common.{arith, ◌≡◌, ◌<◌, ◌∙◌, ℕ, Some, ap, sym, subst}
use lib.ListN.{get_elem?}
use Rattle.memtable_shards.specs.declared.sharding.TheConstants.{SHARDS}
use Rattle.publish_core.specs.Machine.{Acts}
use Rattle.memtable_shards.specs.Versions.{piece_in, Gains}
use Rattle.commit_queue.specs.Tells.{Seated}
use Rattle.commit_queue.proofs.TakesTurns.{gives_applied}
use Rattle.commit_queue.proofs.pipe_table.PipeTable.give_applied_at.Goals as goal

pub store-requires : goal.store-requires
store-requires c = let q = c.requires in let g = q.gives in let e = c.exchange.ensures.3 in let small : c.args.shard < SHARDS = q.small in
    let same : g.shard ≡ c.args.shard = let both : Some g.shard ≡ Some c.args.shard = sym g.turn ∙ q.turn in cc in (
      c.exchange.ensures.0 ∙ q.table,
      (let w = c.args.self.now.words in omega arith),
      gives_applied _ _ _ _ c.args.shard g.index g.batch c.args.value _ c.args.self.now.slots
          (subst (λ (m : Seated). Acts m.0.seat) (sym e) q.acts)
          (ap (λ (m : Seated). m.0.seat.turn) e ∙ q.turn) (ap (λ (m : Seated). m.0.seat.held) e ∙ g.holds)
          (ap (λ (m : Seated). get_elem? m.0.history g.index) e ∙ g.at) (ap (λ (m : Seated). m.1) e)
          (subst (λ (m : Seated). Gains m.0.taken (piece_in c.args.shard g.batch) c.args.value) (sym e)
          (subst (λ (k : ℕ). Gains c.args.seat.now.me.0.taken (piece_in k g.batch) c.args.value) same g.gains)),
    )
