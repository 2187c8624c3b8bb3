use Rattle.std.proofs.Common.{arith, ◌<◌, ◌∙◌, ap, sym, subst}
use Rattle.memtable_shards.specs.declared.sharding.TheConstants.{SHARDS}
use Rattle.publish_core.specs.Machine.{Acts}
use Rattle.memtable_shards.specs.Versions.{HasSameVersions}
use Rattle.commit_queue.specs.Tells.{Seated}
use Rattle.commit_queue.proofs.TakesTurns.{gives_shard}
use Rattle.commit_queue.proofs.pipe_table.PipeTable.give_shard_at.Goals as goal

pub store-requires : goal.store-requires
store-requires c = let q = c.requires in let e = c.exchange.ensures.3 in let small : c.args.shard < SHARDS = q.small in (
  c.exchange.ensures.0 ∙ q.table,
  (let w = c.args.self.now.words in omega arith),
  gives_shard _ _ _ _ c.args.shard c.args.value _ c.args.self.now.slots (subst (λ (m : Seated). Acts m.0.seat) (sym e) q.acts)
      (ap (λ (m : Seated). m.0.seat.turn) e ∙ q.turn) (ap (λ (m : Seated). m.1) e)
      (subst (λ (m : Seated). HasSameVersions m.0.taken c.args.value) (sym e) q.gives.same),
)
