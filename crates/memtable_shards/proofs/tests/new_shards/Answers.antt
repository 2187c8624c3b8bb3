use Rattle.std.proofs.Common.{◌≡◌, List, ◌++◌, ◌∷◌, [], arith}
use Rattle.memtable_shards.specs.Versions.{Version}
use Rattle.memtable_shards.proofs.Cutting.{empty_by_shard, one_less}
use Rattle.memtable_shards.proofs.Rigs.{all_empty}
use Rattle.memtable_shards.proofs.tests.new_shards.Goals as goal

pub loop-preserved : goal.loop-preserved
loop-preserved g c =
    let shard : List Version = c.expect-shard.result in
    let empty : shard ≡ [] = rw c.expect-shard.ensures at c.new.ensures in
    let pushed : c.push.new.self.items ≡ c.loop.shards.items ++ shard ∷ [] = rw c.expect.ensures at c.push.ensures.items in (
      omega (arith, one_less c.push.new.self.items c.loop.shards.items shard pushed, c.loop.invariant.0),
      omega (arith, c.loop-test.true),
      all_empty c.loop.shards.items c.push.new.self.items shard pushed empty c.loop.invariant.2,
    )

pub returns-clause-empty : goal.returns-clause-empty
returns-clause-empty g c = empty_by_shard _ c.loop.invariant.2
