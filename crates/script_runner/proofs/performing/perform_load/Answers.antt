-- The first session counts, and the others stay as they are.
use Rattle.std.proofs.Common.{◌≡◌, ◌∙◌, List, sym, ap, subst}
use Rattle.commit_pipeline.specs.declared.standing.Standing.{Standing}
use Rattle.session_rounds.specs.Players.{PlayMore, ReadersView}
use Rattle.script_runner.proofs.CountsKeys.{keeps_count}
use Rattle.script_runner.proofs.performing.perform_load.Goals as goal

pub returns-clause-done : goal.returns-clause-done
returns-clause-done g c =
    let opening = g.N.PipeName.opening in
    let played = c.in-Ok.ensures.answered in
    let old = c.settle.new.self in
    let new = c.count_live.new.readers in
    let met : old.met ≡ c.in-Ok.sessions.items = ap (λ (r : ReadersView). r.met) c.settle.ensures ∙ c.new-readers.ensures.0 in
    let now : old.now ≡ c.in-Ok.sessions.items = ap (λ (r : ReadersView). r.now) c.settle.ensures ∙ c.new-readers.ensures.1 in
    let counts = c.in-Ok-count_live.ensures in
    record {
      own = played.own;
      plays = subst (λ (met : List Standing). PlayMore opening c.args.load played.own c.args.sessions.items met) (sym (counts.met ∙ met)) played.plays;
      limited = played.limited_is;
      kept = keeps_count opening (record { text = c.in-Ok-new.text; live = c.in-Ok-count_live.live; limited = c.in-Ok.limited }) played.own old new
          (met ∙ sym now) counts;
    }
