use Rattle.std.proofs.Common.{ap, subst, refl, ◌∙◌, arith}
use Rattle.commit_queue.specs.Shown.{session_shown}
use Rattle.commit_pipeline.specs.Meeting.{HearsDeath}
use Rattle.commit_pipeline.specs.Sides.{FlushView}
use Rattle.commit_pipeline.specs.Standings.{standing}
use Rattle.commit_pipeline.proofs.HearDeaths.{none_hear, next_hears, all_hear, session_told, hears_told}
use Rattle.commit_pipeline.proofs.flush_side.FlushSide.tell_deaths.Goals as goal

pub loop-session-init : goal.loop-session-init
loop-session-init g c = record { same = refl; first = none_hear c.args.self.now.journal.state.dead c.args.sessions.now }

pub tell_death-requires : goal.tell_death-requires
tell_death-requires g c = record { part = c.session.invariant.told_part }

pub invariant_of-session : goal.invariant_of-session
invariant_of-session g c =
    let e = c.tell_death.ensures in
    session_told g.N.PipeName.table g.N.PipeName.opening c.session.inside.desk c.tell_death.new.desk e.seat e.own e.dead.0 e.told.0
    c.session.invariant

pub loop-session-preserved : goal.loop-session-preserved
loop-session-preserved g c =
    let e = c.tell_death.ensures in
    let d = c.session.inside.desk in
    let d' = c.tell_death.new.desk in
    let was = standing (session_shown d.seat) d.dead.amount d.told.amount in
    let is = standing (session_shown d'.seat) d'.dead.amount d'.told.amount in
    let i = c.loop-session.invariant in
    record {
      same = e.side ∙ i.same;
      first = next_hears c.args.self.now.journal.state.dead c.args.sessions.now c.loop-session.sessions c.loop-session.session-index was is
          c.session-item.result (omega arith) c.session.view_is
          (subst (λ m. HearsDeath m was is) (ap (λ (v : FlushView _). v.journal.state.dead) i.same)
          (hears_told c.loop-session.self.journal.state.dead d d' e.seat e.dead.1 e.told.1 e.lives))
          i.first;
    }

pub returns-clause-side : goal.returns-clause-side
returns-clause-side g c = c.loop-session.invariant.same

pub returns-clause-told : goal.returns-clause-told
returns-clause-told g c =
    all_hear c.args.self.now.journal.state.dead c.args.sessions.now c.loop-session.sessions c.loop-session.session-index c.loop-session.invariant.first
    c.loop-session-test.false
