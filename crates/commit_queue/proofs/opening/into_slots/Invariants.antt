use Rattle.std.proofs.Common.{◌≡◌, map, Some}
use Rattle.commit_queue.proofs.opening.into_slots.Given as goal

abbrev pub invariant-loop-shard : goal.invariant-loop-shard
invariant-loop-shard l = l.slots.items ≡ map Some l.yielded
