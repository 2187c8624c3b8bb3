-- The turns have the lines of the round.
use Rattle.std.proofs.lemmas.Result.{IfOk-weaker}
use Rattle.session_rounds.specs.Playing.{RoundPlayed}
use Rattle.session_rounds.specs.Turns.{PlaysTurns}
use Rattle.session_rounds.proofs.Played.{round_ended}
use Rattle.session_rounds.proofs.crew.Crew.play_lines.Goals as goal

pub returns : goal.returns
returns g c =
    let opening = g.N.PipeName.opening in
    let ss = c.args.sessions.items in
    let lines = c.args.lines in
    let ts = c.in_ok-turns.turns.items in
    let old = c.args.transcript.now in
    let new = c.play_turns.new.transcript in
    IfOk-weaker c.play_turns.result (λ ended. PlaysTurns opening ts ended.items old new)
    (λ ended. RoundPlayed opening lines ss ended.items old new)
    (λ ended plays. round_ended opening lines ss ended.items ts old new c.requires c.in_ok-turns.ensures plays) c.play_turns.ensures
