use Rattle.std.proofs.Common.{arith, ◌<◌, ◌+◌, ◌-◌, ◌∙◌, ℕ, Some}
use Rattle.memtable_shards.specs.declared.sharding.TheConstants.{SHARDS}
use Rattle.commit_queue.specs.declared.layout.TheConstants.{TURNS_FROM}
use Rattle.commit_queue.proofs.TakesTurns.{takes_shard, taken_slot}
use Rattle.commit_queue.proofs.pipe_table.PipeTable.take_shard_at.Goals as goal

pub compare_exchange-requires : goal.compare_exchange-requires
compare_exchange-requires c = let q = c.requires in let small : c.args.shard < SHARDS = q.small in (
  q.table,
  (let w = c.args.self.now.words in omega arith),
  takes_shard _ _ _ _ c.args.shard q.small q.acts q.no_turn,
)

pub exchange-requires : goal.exchange-requires
exchange-requires c = let t = c.compare_exchange.ensures.2.0 c.if-compare_exchange-ne0.false in let k : ℕ = c.args.shard in (
  c.compare_exchange.ensures.0 ∙ c.requires.table,
  (Some t.0, taken_slot k (k + TURNS_FROM - TURNS_FROM) t.0 _ _ (omega arith) t.1),
)
