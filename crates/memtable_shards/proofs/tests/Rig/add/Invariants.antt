-- The shards are amid the pieces of the batch.
use Rattle.std.specs.Prelude.{◌-◌, ◌++◌, ◌∷◌, [], List}
use Rattle.batch_repr.specs.declared.batch.Batch.{Batch}
use Rattle.batch_repr.specs.Batches.{IsContiguous}
use Rattle.memtable_shards.specs.declared.sharding.TheConstants.{SHARDS}
use Rattle.memtable_shards.specs.Pieces.{AreShardsAmid}
use Rattle.memtable_shards.proofs.tests.Rig.add.Given as goal

abbrev pub invariant-loop-at : goal.invariant-loop-at
invariant-loop-at g l = (batches : List Batch) × IsContiguous 10
    (batches ++ record { first = l.first; entries = l.fn.batch } ∷ []) × AreShardsAmid l.self-inside.shards.items batches
    (record { first = l.first; entries = l.fn.batch }) l.pieces

abbrev pub decreases-loop-at : goal.decreases-loop-at
decreases-loop-at g l = SHARDS - l.pieces.from
