-- Session by session.
use Rattle.std.specs.Prelude.{◌≡◌, [], ◌∷◌, ◌++◌, length}
use Rattle.std.proofs.Common.{ap, sym, subst, ◌∙◌, rules}
use Rattle.session_rounds.specs.Transcripts.{blank_of}
use Rattle.session_rounds.specs.declared.transcript.Transcript.{Transcript}
use Rattle.session_rounds.specs.Turns.{turn_with, AreDealt}
use Rattle.session_rounds.proofs.AreDealt.{one_shared}
use Rattle.session_rounds.proofs.playing.share.Goals as goal

pub loop-session-preserved : goal.loop-session-preserved
loop-session-preserved g c =
    let told = blank_of c.args.transcript.now in
    let lines = c.args.round.now.lines in
    let turns = c.loop-session.turns.items in
    let session = c.in-Some.session in
    let turn = c.to_make.result in
    let its : turn ≡ turn_with told session c.lines_of-own.result =
    c.to_make.ensures ∙ ap (λ (t : Transcript). turn_with t session c.lines_of-own.result) c.in_ok-told.ensures in
    let count : c.len-in-loop-session.result ≡ length turns = search rules in
    let pushed : c.push.new.self.items ≡ turns ++ turn ∷ [] = search rules in
    subst (AreDealt told (c.loop-session.yielded ++ session ∷ []) lines) (sym pushed)
    (one_shared told c.loop-session.yielded lines c.lines_of-own.result turns c.len-in-loop-session.result session turn c.loop-session.invariant count
    c.lines_of-own.ensures its)
