use Rattle.std.proofs.Common.{◌≡◌, [], replicate}
use Rattle.commit_queue.proofs.tests.eight.Given as goal

abbrev pub invariant-loop : goal.invariant-loop
invariant-loop g l = l.shards ≡ replicate l.counter []
