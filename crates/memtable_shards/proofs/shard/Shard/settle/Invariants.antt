-- The versions are the same, and fewer of them wait.
use Rattle.std.specs.Prelude.{◌↔◌, length, Contains}
use Rattle.memtable_shards.specs.Versions.{Version}
use Rattle.memtable_shards.specs.Parts.{settled_in, IsShard}
use Rattle.memtable_shards.proofs.IsShard.{seen}
use Rattle.memtable_shards.proofs.shard.Shard.settle.Given as goal

abbrev pub invariant-loop : goal.invariant-loop
invariant-loop l = IsShard (settled_in l.self-inside.index.versions l.self-inside.ranges) l.self-inside.waiting
    × ((version : Version) → Contains (seen (settled_in l.self-inside.index.versions l.self-inside.ranges) l.self-inside.waiting) version ↔ Contains
    (seen (settled_in l.initial.self-inside.index.versions l.initial.self-inside.ranges) l.initial.self-inside.waiting) version)

abbrev pub decreases-loop : goal.decreases-loop
decreases-loop l = length l.self-inside.waiting
