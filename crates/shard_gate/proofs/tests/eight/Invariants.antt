use Rattle.std.proofs.Common.{◌≡◌, [], replicate}
use Rattle.shard_gate.proofs.tests.eight.Given as goal

abbrev pub invariant-loop : goal.invariant-loop
invariant-loop g l = l.shards ≡ replicate l.counter []
