use Rattle.session_replies.specs.Rounds.{LinesAreOfSome}
use Rattle.session_rounds.proofs.tests.lines_of.Given as goal

abbrev pub invariant-loop-k : goal.invariant-loop-k
invariant-loop-k g l = LinesAreOfSome l.row.sessions l.lines

abbrev pub invariant-loop-place : goal.invariant-loop-place
invariant-loop-place g l = LinesAreOfSome l.row.sessions l.lines
