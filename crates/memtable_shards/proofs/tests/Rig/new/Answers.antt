use Rattle.std.proofs.Common.{[]}
use Rattle.memtable_shards.proofs.Applying.{empty_shards}
use Rattle.memtable_shards.proofs.Rigs.{no_batch, no_end}
use Rattle.memtable_shards.proofs.tests.Rig.new.Goals as goal

pub invariant_of-result : goal.invariant_of-result
invariant_of-result g c = (
  [],
  no_batch,
  no_end,
  empty_shards c.new_shards-shards.result.items c.new_shards-shards.ensures.eight
      c.new_shards-shards.ensures.empty,
)
