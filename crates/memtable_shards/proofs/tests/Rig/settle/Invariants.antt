-- The shards are those of the batches still.
use Rattle.std.specs.Prelude.{◌≡◌, List}
use Rattle.batch_repr.specs.declared.batch.Batch.{Batch}
use Rattle.batch_repr.specs.Batches.{IsContiguous, end_after}
use Rattle.memtable_shards.specs.Versions.{AreShardsOf}
use Rattle.memtable_shards.proofs.tests.Rig.settle.Given as goal

abbrev pub invariant-loop-at : goal.invariant-loop-at
invariant-loop-at l = (batches : List Batch) × IsContiguous 10 batches × (l.self-inside.next ≡ end_after 10 batches) × AreShardsOf l.self-inside.shards.items
    batches
