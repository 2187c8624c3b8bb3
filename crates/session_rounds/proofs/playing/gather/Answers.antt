-- Turn by turn.
use Rattle.std.specs.Prelude.{◌≡◌, [], ◌∷◌, ◌++◌, map}
use Rattle.std.proofs.Common.{ap, sym, ◌∙◌, rules, arith}
use Rattle.std.proofs.lemmas.Grind.{common_steps}
use Rattle.session_rounds.specs.declared.transcript.Transcript.{Transcript}
use Rattle.session_rounds.specs.Transcripts.{with_told}
use Rattle.session_rounds.specs.Turns.{session_of, join_all, NoneStarved}
use Rattle.session_rounds.proofs.Played.{none_joined, one_joined}
use Rattle.session_rounds.proofs.playing.gather.Goals as goal

pub loop-turn-init : goal.loop-turn-init
loop-turn-init g c =
    let none : c.in_ok-sessions.sessions.items ≡ [] = search rules in
    record { sessions = none; told = none_joined c.args.transcript.now; whole = tt }

pub loop-turn-preserved : goal.loop-turn-preserved
loop-turn-preserved g c =
    let old = c.args.transcript.now in
    let ts = c.loop-turn.yielded in
    let turn = c.in-Some.turn in
    let sessions : c.push.new.self.items ≡ map session_of (ts ++ turn ∷ []) = grind (arith, common_steps) in
    let whole : NoneStarved (ts ++ turn ∷ []) = grind (arith, common_steps) in
    let this : with_told (join_all old ts) c.in_ok-session.told ≡ with_told (join_all old ts) turn.told =
    ap (with_told (join_all old ts)) c.in_ok-session.ensures.told in
    record {
      sessions = sessions;
      told = c.in_ok-join.ensures ∙ ap (λ (t : Transcript). with_told t c.in_ok-session.told) c.loop-turn.invariant.told ∙ this
          ∙ sym (one_joined old ts turn);
      whole = whole;
    }
