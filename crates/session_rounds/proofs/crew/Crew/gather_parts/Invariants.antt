-- The parts so far are played.
use Rattle.session_rounds.specs.Turns.{PlayAll}
use Rattle.session_rounds.specs.Parts.{turns_of_parts}
use Rattle.session_rounds.proofs.crew.Crew.gather_parts.Given as goal

abbrev pub invariant-loop-hand : goal.invariant-loop-hand
invariant-loop-hand g l = PlayAll g.N.PipeName.opening (turns_of_parts l.yielded) l.all.items
