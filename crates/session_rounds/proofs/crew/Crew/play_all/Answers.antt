-- The parts of the others and the own one are all turns.
use Rattle.std.proofs.lemmas.Result.{IfOk-weaker}
use Rattle.session_rounds.specs.Turns.{PlayAll}
use Rattle.session_rounds.specs.Parts.{AreGathered}
use Rattle.session_rounds.proofs.Sharing.{all_played}
use Rattle.session_rounds.proofs.crew.Crew.play_all.Goals as goal

pub returns : goal.returns
returns g c =
    let opening = g.N.PipeName.opening in
    let shared = c.in_ok-busy in
    let own = c.play_part-own.result.items in
    IfOk-weaker c.gather_parts.result (λ all. AreGathered opening shared.busy.items own all.items)
    (λ ended. PlayAll opening c.args.turns.items ended.items)
    (λ ended gathered. all_played opening c.args.turns.items shared.busy.items shared.own.items own ended.items shared.ensures
    c.play_part-own.ensures gathered) c.gather_parts.ensures
