-- The lists so far are empty.
use Rattle.std.specs.Prelude.{◌≤◌}
use Rattle.memtable_shards.specs.Parts.{AreEmptyBetween}
use Rattle.memtable_shards.proofs.pieces.first_with_any.Given as goal

abbrev pub invariant-loop-shard : goal.invariant-loop-shard
invariant-loop-shard l = (l.from ≤ l.shard) × AreEmptyBetween l.lists l.from l.shard
