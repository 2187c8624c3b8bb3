-- The turns are played, and none of them ran out of memory.
use Rattle.session_rounds.proofs.Played.{turns_played}
use Rattle.session_rounds.proofs.crew.Crew.play_turns.Goals as goal

pub returns : goal.returns
returns g c =
    turns_played g.N.PipeName.opening c.args.turns.items c.in_ok-ended.ended.items c.args.transcript.now c.gather.new.transcript c.gather.result
    c.in_ok-ended.ensures c.gather.ensures.sessions c.gather.ensures.told c.gather.ensures.whole
