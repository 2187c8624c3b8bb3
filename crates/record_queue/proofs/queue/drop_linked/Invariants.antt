-- as many as the loop has counted are gone from the front
use Rattle.std.proofs.Common.{◌≡◌, drop}
use Rattle.record_queue.proofs.queue.drop_linked.Given as goal

abbrev pub invariant-loop : goal.invariant-loop
invariant-loop l = l.linked ≡ drop l.counter l.fn.linked
