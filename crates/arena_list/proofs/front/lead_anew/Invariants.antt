-- The leads before this one are made anew.
use Rattle.arena_list.specs.Fronts.{LeadsAnew}
use Rattle.arena_list.proofs.front.lead_anew.Given as goal

abbrev pub invariant-loop-place : goal.invariant-loop-place
invariant-loop-place l = LeadsAnew l.fn.nodes l.shared l.place l.nodes
