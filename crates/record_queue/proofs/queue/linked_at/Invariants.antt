-- the nodes that are left begin where the place is no longer away
use Rattle.std.proofs.Common.{◌≡◌, ◌≤◌, ◌-◌, drop, length}
use Rattle.record_queue.proofs.queue.linked_at.Given as goal

abbrev pub invariant-loop-node : goal.invariant-loop-node
invariant-loop-node l = record { rest : l.rest ≡ drop (l.place - l.left) l.linked; low : l.left ≤ l.place }

abbrev pub decreases-loop-node : goal.decreases-loop-node
decreases-loop-node l = length l.rest
