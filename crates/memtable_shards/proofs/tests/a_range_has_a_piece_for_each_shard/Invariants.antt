-- The pieces stay numbered.
use Rattle.std.specs.Prelude.{IsSome}
use Rattle.memtable_shards.proofs.tests.a_range_has_a_piece_for_each_shard.Given as goal

abbrev pub invariant-loop-shard : goal.invariant-loop-shard
invariant-loop-shard g l = IsSome l.pieces.first
