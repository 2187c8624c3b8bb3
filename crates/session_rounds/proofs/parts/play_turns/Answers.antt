use Rattle.std.proofs.Common.{arith}
use Rattle.session_rounds.proofs.AllPlayed.{one_played}
use Rattle.session_rounds.proofs.parts.play_turns.Goals as goal

pub loop-turn-preserved : goal.loop-turn-preserved
loop-turn-preserved g c =
    one_played g.N.PipeName.opening c.args.turns.now c.loop-turn.turns c.loop-turn.turn-index c.turn-item.result c.play.new.self
    c.loop-turn.invariant (omega arith) c.play.ensures
