use Rattle.session_rounds.specs.Transcripts.{blank_of}
use Rattle.session_rounds.specs.Turns.{AreDealt}
use Rattle.session_rounds.proofs.playing.share.Given as goal

abbrev pub invariant-loop-session : goal.invariant-loop-session
invariant-loop-session g l = AreDealt (blank_of l.transcript) l.yielded l.round.lines l.turns.items
