use Rattle.std.specs.Prelude.{◌≡◌, take}
use Rattle.session_rounds.specs.Parts.{at_work}
use Rattle.session_rounds.proofs.parts.sharing_of.Given as goal

abbrev pub invariant-loop-turn : goal.invariant-loop-turn
invariant-loop-turn g l = l.working ≡ at_work (take l.turn-index l.turns)
