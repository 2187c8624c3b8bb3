-- The lists so far have it.
use Rattle.std.specs.Prelude.{◌≡◌, length}
use Rattle.memtable_shards.specs.declared.sharding.TheConstants.{SHARDS}
use Rattle.memtable_shards.specs.Parts.{AddsToFirst}
use Rattle.memtable_shards.proofs.pieces.add_to_all.Given as goal

abbrev pub invariant-loop-shard : goal.invariant-loop-shard
invariant-loop-shard l = (length l.lists ≡ SHARDS) × AddsToFirst l.version l.shard l.fn.lists l.lists
