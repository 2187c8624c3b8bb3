-- All have seen what any of them had seen, and then are told of a death.
use Rattle.std.proofs.Common.{◌≡◌, List, length, ap, subst, ◌∙◌}
use Rattle.std.specs.Prelude.{Option}
use Rattle.failover_writer.specs.declared.fault.DeadMark.{DeadMark}
use Rattle.commit_pipeline.specs.declared.standing.Standing.{Standing}
use Rattle.commit_pipeline.specs.Meeting.{ShareSeen, HearDeaths, HaveMet}
use Rattle.commit_pipeline.proofs.HaveMet.{refilled}
use Rattle.commit_pipeline.proofs.HearDeaths.{have_met}
use Rattle.commit_pipeline.proofs.pipeline.Pipeline.meet.Goals as goal

-- They have met, by the slice that they were told in.
have_met_in : {mark : Option DeadMark} (ss mid slice ss' : List Standing) → slice ≡ mid → ShareSeen ss mid → HearDeaths mark slice ss' → HaveMet ss ss'
have_met_in {mark = mark} ss mid slice ss' same share told = have_met mark ss mid ss' share (subst (λ (l : List Standing). HearDeaths mark l ss') same told)

pub returns-clause-met : goal.returns-clause-met
returns-clause-met g c =
    let told = c.tell_deaths.ensures.told in
    let value = c.as_mut_slice.ensures.value in
    let mid = c.share_seen.new.sessions in
    refilled (HaveMet c.args.sessions.now.items) mid.items c.tell_deaths.new.sessions mid.len mid.ok.0 (told.all ∙ ap length value)
    (have_met_in c.args.sessions.now.items mid.items c.as_mut_slice.result.now c.tell_deaths.new.sessions value c.in_ok-share_seen.ensures.met told)
