use Rattle.memtable_shards.proofs.Applying.{shards_settled}
use Rattle.memtable_shards.proofs.theorems.settled_shards_are_the_same.Goals as goal

pub returns : goal.returns
returns c = shards_settled
