use Rattle.std.specs.Prelude.{length}
use Rattle.session_rounds.specs.Transcripts.{blank_of}
use Rattle.session_rounds.proofs.AreDealt.{DealtSoFar}
use Rattle.session_rounds.proofs.playing.deal.Given as goal

abbrev pub invariant-loop-line : goal.invariant-loop-line
invariant-loop-line g l = DealtSoFar (blank_of l.fn.transcript) l.fn.sessions.items l.fn.lines l.left l.turns.items

abbrev pub decreases-loop-line : goal.decreases-loop-line
decreases-loop-line g l = length l.left
