use Rattle.session_rounds.proofs.AllPlayed.{PlayedSoFar}
use Rattle.session_rounds.proofs.parts.play_turns.Given as goal

abbrev pub invariant-loop-turn : goal.invariant-loop-turn
invariant-loop-turn g l = PlayedSoFar g.N.PipeName.opening l.initial.turns l.turns l.turn-index
