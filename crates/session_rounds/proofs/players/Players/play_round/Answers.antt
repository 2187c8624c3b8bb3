-- The lines are played, and the sessions meet.
use Rattle.std.proofs.Common.{List, [], ◌∷◌, length, sym, subst}
use Rattle.std.proofs.lemmas.Result.{IfOk-weaker}
use Rattle.session_replies.specs.Rounds.{LinesAreOfSome}
use Rattle.commit_pipeline.specs.declared.standing.Standing.{Standing}
use Rattle.commit_pipeline.specs.Meeting.{HaveMet}
use Rattle.session_rounds.specs.Players.{PlayNoted}
use Rattle.session_rounds.proofs.HavePlayed.{round_played}
use Rattle.session_rounds.proofs.players.Players.play_round.Goals as goal

pub returns : goal.returns
returns g c =
    let opening = g.N.PipeName.opening in
    let round = c.args.round in
    let ss : List Standing = c.self.inside.sessions.items in
    let mid : List Standing = c.in_ok-sessions.sessions.items in
    let old = c.args.transcript.now in
    let new = c.play_lines.new.transcript in
    IfOk-weaker c.meet.result (HaveMet mid) (λ ended. PlayNoted opening (round ∷ []) c.args.self ended old new)
    (λ ended meets. subst (λ (was : List Standing). PlayNoted opening (round ∷ []) was ended old new) c.self.view_is
    (round_played opening round ss mid ended old new
    (subst (λ (was : List Standing). LinesAreOfSome (length was) round.lines) (sym c.self.view_is) c.requires.named) c.in_ok-sessions.ensures
    meets)) c.meet.ensures
