-- The newer one of the index and of what stands beside it.
use Rattle.std.specs.Prelude.{map}
use Rattle.memtable_shards.specs.Parts.{of_key, of_range}
use Rattle.memtable_shards.proofs.Settling.{from_index}
use Rattle.memtable_shards.proofs.shard.newest_settled.Goals as goal

pub returns : goal.returns
returns c = c.newer_of.ensures (map of_key c.args.index.now.versions) (map of_range c.args.ranges.now) c.args.key.now c.args.below
    (from_index c.args.index.now.versions c.args.key.now c.args.below c.newest.result c.newest.ensures) c.newest_range.ensures
