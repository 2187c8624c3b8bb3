-- The levels below this one are linked.
use Rattle.arena_list.specs.Steps.{LinksIn}
use Rattle.arena_list.proofs.links.link_in.Given as goal

abbrev pub invariant-loop-level : goal.invariant-loop-level
invariant-loop-level l = LinksIn l.fn.nodes l.lasts l.place l.level l.nodes
