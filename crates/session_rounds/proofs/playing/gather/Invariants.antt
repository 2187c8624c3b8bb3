use Rattle.std.specs.Prelude.{◌≡◌, map}
use Rattle.session_rounds.specs.Turns.{session_of, join_all, NoneStarved}
use Rattle.session_rounds.proofs.playing.gather.Given as goal

abbrev pub invariant-loop-turn : goal.invariant-loop-turn
invariant-loop-turn g l = record {
  sessions : l.sessions.items ≡ map session_of l.yielded;
  told : l.transcript ≡ join_all l.initial.transcript l.yielded;
  whole : NoneStarved l.yielded;
}
