use Rattle.std.proofs.Common.{◌≡◌, [], replicate}
use Rattle.ring_bench.proofs.ring_run.eight.Given as goal

abbrev pub invariant-loop : goal.invariant-loop
invariant-loop l = l.shards ≡ replicate l.counter []
