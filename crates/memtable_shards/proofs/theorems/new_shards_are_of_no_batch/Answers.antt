use Rattle.memtable_shards.proofs.Applying.{empty_shards}
use Rattle.memtable_shards.proofs.theorems.new_shards_are_of_no_batch.Goals as goal

pub returns : goal.returns
returns c = empty_shards
