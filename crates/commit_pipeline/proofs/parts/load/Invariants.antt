use Rattle.std.proofs.Common.{◌≡◌, [], length, take, replicate}
use Rattle.memtable_shards.specs.Versions.{AreShardsOf}
use Rattle.commit_pipeline.proofs.parts.load.Given as goal

abbrev pub invariant-loop : goal.invariant-loop
invariant-loop l = l.shards.items ≡ replicate l.counter []

abbrev pub invariant-loop-batch : goal.invariant-loop-batch
invariant-loop-batch l = AreShardsOf l.shards.items (take (length l.yielded) l.fn.base)

abbrev pub invariant-loop-place : goal.invariant-loop-place
invariant-loop-place l = AreShardsOf l.shards.items l.fn.base

abbrev pub invariant-loop-shard : goal.invariant-loop-shard
invariant-loop-shard l = l.list ≡ l.yielded
