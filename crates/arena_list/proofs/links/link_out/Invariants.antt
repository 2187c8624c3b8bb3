-- The levels below this one are done.
use Rattle.arena_list.specs.Steps.{LinksOut}
use Rattle.arena_list.proofs.links.link_out.Given as goal

abbrev pub invariant-loop-level : goal.invariant-loop-level
invariant-loop-level l = LinksOut l.fn.nodes l.lasts l.place l.level l.nodes
