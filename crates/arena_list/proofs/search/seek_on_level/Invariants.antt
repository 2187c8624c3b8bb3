-- The search may go on from the last place, and what is left of the level shrinks.
use Rattle.std.proofs.Common.{◌≡◌, length}
use Rattle.arena_list.specs.Chains.{path}
use Rattle.arena_list.specs.Nodes.{next_on}
use Rattle.arena_list.specs.Steps.{MayGoOn}
use Rattle.arena_list.proofs.search.seek_on_level.Given as goal

abbrev pub invariant-loop-next : goal.invariant-loop-next
invariant-loop-next l = record {
  goes : MayGoOn l.nodes l.level l.sought.key.now l.sought.number l.last;
  next : l.next ≡ next_on l.nodes l.level l.last;
}

abbrev pub decreases-loop-next : goal.decreases-loop-next
decreases-loop-next l = length (path (next_on l.nodes l.level) l.next (length l.nodes))
