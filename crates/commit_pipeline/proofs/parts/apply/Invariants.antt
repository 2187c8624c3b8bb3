use Rattle.std.specs.Prelude.{◌-◌, List}
use Rattle.batch_repr.specs.declared.batch.Batch.{Batch}
use Rattle.memtable_shards.specs.declared.sharding.TheConstants.{SHARDS}
use Rattle.memtable_shards.specs.Versions.{AreShardsOf}
use Rattle.memtable_shards.specs.Pieces.{AreShardsAmid}
use Rattle.commit_pipeline.proofs.parts.apply.Given as goal

abbrev pub invariant-loop-shard : goal.invariant-loop-shard
invariant-loop-shard l = (batches : List Batch) → AreShardsOf l.initial.shards.items batches
    → AreShardsAmid l.shards.items batches l.fn.batch l.pieces

abbrev pub decreases-loop-shard : goal.decreases-loop-shard
decreases-loop-shard l = SHARDS - l.pieces.from
