use Rattle.std.proofs.Common.{sym, ◌∙◌, rules}
use Rattle.commit_pipeline.specs.Meeting.{ShareSeen, StayOn}
use Rattle.commit_pipeline.proofs.HaveMet.{over_written, stay_beside, beside_both, share_seen}
use Rattle.commit_pipeline.proofs.pipeline.Pipeline.share_seen.Goals as goal

pub returns-in_err-meet_each-clause-err : goal.returns-in_err-meet_each-clause-err
returns-in_err-meet_each-clause-err g c =
    let stay = over_written StayOn c.args.sessions.now.items c.in-Some.first.now c.in-Some.others.now c.args.sessions.now.len
    c.meet_each.new.one c.meet_each.new.others (sym c.deref_mut.ensures.value ∙ c.in-Some.ensures.cases.0) c.args.sessions.now.ok.0
    c.meet_each.auto.others (stay_beside _ _ _ _ c.in_err-meet_each.ensures.err) in
    search rules

pub returns-in_err-meet_each-2-clause-err : goal.returns-in_err-meet_each-2-clause-err
returns-in_err-meet_each-2-clause-err g c =
    let stay = over_written StayOn c.args.sessions.now.items c.in-Some.first.now c.in-Some.others.now c.args.sessions.now.len
    c.meet_each-in-Some.new.one c.meet_each-in-Some.new.others (sym c.deref_mut.ensures.value ∙ c.in-Some.ensures.cases.0)
    c.args.sessions.now.ok.0 (c.meet_each-in-Some.auto.others ∙ c.meet_each.auto.others)
    (stay_beside _ _ _ _ (beside_both _ _ _ _ _ _ c.in_ok-meet_each.ensures.met.beside c.in_err-meet_each-2.ensures.err)) in
    search rules

pub returns-in_ok-meet_each-2-clause-met : goal.returns-in_ok-meet_each-2-clause-met
returns-in_ok-meet_each-2-clause-met g c =
    over_written ShareSeen c.args.sessions.now.items c.in-Some.first.now c.in-Some.others.now c.args.sessions.now.len
    c.meet_each-in-Some.new.one c.meet_each-in-Some.new.others (sym c.deref_mut.ensures.value ∙ c.in-Some.ensures.cases.0)
    c.args.sessions.now.ok.0 (c.meet_each-in-Some.auto.others ∙ c.meet_each.auto.others)
    (share_seen _ _ _ _ _ _ c.in_ok-meet_each.ensures.met c.in_ok-meet_each-2.ensures.met)
