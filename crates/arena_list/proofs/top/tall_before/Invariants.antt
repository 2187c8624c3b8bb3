-- What is left are some of the entries before the index.
use Rattle.std.proofs.Common.{◌≤◌}
use Rattle.arena_list.proofs.top.tall_before.Given as goal

abbrev pub invariant-loop-left : goal.invariant-loop-left
invariant-loop-left l = l.left ≤ l.index

abbrev pub decreases-loop-left : goal.decreases-loop-left
decreases-loop-left l = l.left
