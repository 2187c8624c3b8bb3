-- What was passed is kept or gone, and what follows is as it was.
use Rattle.std.proofs.Common.{length}
use Rattle.arena_list.specs.Chains.{path}
use Rattle.arena_list.specs.Nodes.{next_on}
use Rattle.arena_list.specs.Fronts.{ShareFront}
use Rattle.arena_list.proofs.Sweeping.{Swept}
use Rattle.arena_list.proofs.keeping.sweep.Given as goal

abbrev pub invariant-loop-place : goal.invariant-loop-place
invariant-loop-place l = record {
  swept : Swept l.fn.nodes l.fn.free l.marks l.nodes l.free l.lasts l.place l.newer l.removed;
  front : ShareFront l.shared l.nodes;
}

abbrev pub decreases-loop-place : goal.decreases-loop-place
decreases-loop-place l = length (path (next_on l.nodes 0) l.place (length l.nodes))
