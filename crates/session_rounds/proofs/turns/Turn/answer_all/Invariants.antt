-- The lines so far are answered, and these are left.
use Rattle.std.specs.Prelude.{length}
use Rattle.session_rounds.proofs.PlaysTurn.{AnsweredSoFar}
use Rattle.session_rounds.proofs.turns.Turn.answer_all.Given as goal

abbrev pub invariant-loop-line : goal.invariant-loop-line
invariant-loop-line g l = AnsweredSoFar g.N.PipeName.opening l.fn.self l.self.lines l.self.told l.self.session

abbrev pub decreases-loop-line : goal.decreases-loop-line
decreases-loop-line g l = length l.self.lines
