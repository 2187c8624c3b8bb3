use Rattle.std.specs.Prelude.{◌≡◌, map}
use Rattle.session_rounds.specs.Transcripts.{blank_of}
use Rattle.session_rounds.specs.Turns.{beginning}
use Rattle.session_rounds.proofs.playing.begin_all.Given as goal

abbrev pub invariant-loop-session : goal.invariant-loop-session
invariant-loop-session g l = l.turns.items ≡ map (beginning (blank_of l.transcript)) l.yielded
