-- The sum of the bytes so far, modulo the number of shards.
use Rattle.std.specs.Prelude.{◌≡◌, ◌<◌, ◌%◌, take}
use Rattle.std.specs.List.{sum}
use Rattle.memtable_shards.specs.declared.sharding.TheConstants.{SHARDS}
use Rattle.memtable_shards.proofs.sharding.shard_index.Given as goal

abbrev pub invariant-loop-byte : goal.invariant-loop-byte
invariant-loop-byte l = (l.sum ≡ sum (take l.byte-index l.key) % SHARDS) × (l.sum < SHARDS)
