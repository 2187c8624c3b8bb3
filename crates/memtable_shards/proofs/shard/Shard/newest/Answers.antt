-- The newer one of the index and of what waits.
use Rattle.std.proofs.Common.{◌++◌, List, subst}
use Rattle.memtable_shards.specs.Versions.{Version}
use Rattle.memtable_shards.specs.Parts.{settled_in}
use Rattle.memtable_shards.specs.Newest.{FindsNewest, told}
use Rattle.memtable_shards.proofs.Newer.{newest_same}
use Rattle.memtable_shards.proofs.IsShard.{seen, seen_once}
use Rattle.memtable_shards.proofs.shard.Shard.newest.Goals as goal

pub returns : goal.returns
returns c =
    let index : List Version = settled_in c.self.inside.index.versions c.self.inside.ranges in
    let waiting : List Version = c.self.inside.waiting in
    subst (λ (vs : List Version). FindsNewest vs c.args.key.now c.args.below c.newer_of.result) c.self.view_is
    (newest_same (index ++ waiting) (seen index waiting) c.args.key.now c.args.below (told c.newer_of.result)
    (seen_once index waiting)
    (c.newer_of.ensures index waiting c.args.key.now c.args.below c.newest_settled-settled.ensures c.find_waiting.ensures))
