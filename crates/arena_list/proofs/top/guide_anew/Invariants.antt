-- The entries before this one are made anew.
use Rattle.arena_list.specs.Tops.{GuidesAnew}
use Rattle.arena_list.proofs.top.guide_anew.Given as goal

abbrev pub invariant-loop-index : goal.invariant-loop-index
invariant-loop-index l = GuidesAnew l.nodes l.shared l.index l.fn.top l.top
