-- The newest range delete over the key leaves it without a value.
use Rattle.memtable_shards.proofs.Settling.{range_found, no_range_found}
use Rattle.memtable_shards.proofs.shard.newest_range.Goals as goal

pub returns-in-Some : goal.returns-in-Some
returns-in-Some c = range_found c.args.ranges.now c.args.key.now c.args.below c.in-Some.seq c.in-Some.ensures

pub returns-in-None : goal.returns-in-None
returns-in-None c = no_range_found c.args.ranges.now c.args.key.now c.args.below c.in-None.ensures
