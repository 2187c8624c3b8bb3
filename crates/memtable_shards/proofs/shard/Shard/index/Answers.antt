-- Where nothing waits, the index is all that is seen.
use Rattle.std.proofs.Common.{List, sym, ap, subst, ◌∙◌}
use Rattle.std.specs.Prelude.{Contains}
use Rattle.memtable_shards.proofs.Settling.{index_seen}
use Rattle.memtable_shards.specs.Versions.{Version, IsSettled, key_versions}
use Rattle.memtable_shards.proofs.IsShard.{settled_whole}
use Rattle.memtable_shards.proofs.shard.Shard.index.Goals as goal

pub returns-clause-whole : goal.returns-clause-whole
returns-clause-whole c settled =
    settled_whole c.self.inside.index.versions c.self.inside.ranges c.self.inside.waiting (subst IsSettled (sym c.self.view_is) settled)
    ∙ ap key_versions c.self.view_is

pub returns-clause-some : goal.returns-clause-some
returns-clause-some c v h = subst (λ (l : List Version). Contains (key_versions l) v) c.self.view_is
    (index_seen c.self.inside.index.versions c.self.inside.ranges c.self.inside.waiting v h)
