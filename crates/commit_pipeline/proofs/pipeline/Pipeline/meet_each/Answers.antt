use Rattle.std.proofs.Common.{subst, sym, ◌∙◌, arith, rules}
use Rattle.commit_queue.specs.Seats.{session_view}
use Rattle.commit_queue.specs.Shown.{shown_by, session_shown}
use Rattle.commit_pipeline.specs.Standings.{standing}
use Rattle.commit_pipeline.proofs.Meets.{stays_met, hears_met, stays_missed, session_after, session_met}
use Rattle.commit_pipeline.proofs.MeetsEach.{MeetsFirst, meets_none, meets_all, meets_next, beside_next}
use Rattle.commit_pipeline.proofs.pipeline.Pipeline.meet_each.Goals as goal

pub loop-other-init : goal.loop-other-init
loop-other-init g c =
    let desk = c.one.inside.desk in
    let one = standing (session_shown desk.seat) desk.dead.amount desk.told.amount in record {
      session = c.one.invariant;
      meets = subst (λ s. MeetsFirst s c.args.others.now one c.args.others.now 0) c.one.view_is (meets_none _ c.args.others.now);
    }

pub invariant_of-one : goal.invariant_of-one
invariant_of-one g c = c.loop-other.invariant.session

pub meet-requires-clause-table_a : goal.meet-requires-clause-table_a
meet-requires-clause-table_a g c = c.loop-other.invariant.session.of_table ∙ sym c.args.self.now.named

pub meet-requires-clause-idle_a : goal.meet-requires-clause-idle_a
meet-requires-clause-idle_a g c = c.loop-other.invariant.session.idle.0

pub invariant_of-other : goal.invariant_of-other
invariant_of-other g c =
    session_after g.N.PipeName.table g.N.PipeName.opening _ _ (session_view c.other.inside.desk.seat)
    (session_view c.loop-other.one-inside.desk.seat) (session_view c.meet.new.b) _ _ _ _ c.other.invariant c.meet.ensures.same_b c.meet.result
    c.meet.ensures.met_b c.meet.ensures.less_b

pub invariant_of-one-in_err-meet : goal.invariant_of-one-in_err-meet
invariant_of-one-in_err-meet g c =
    session_after g.N.PipeName.table g.N.PipeName.opening _ _ (session_view c.loop-other.one-inside.desk.seat)
    (session_view c.other.inside.desk.seat) (session_view c.meet.new.a) _ _ _ _ c.loop-other.invariant.session c.meet.ensures.same_a
    c.meet.result c.meet.ensures.met_a c.meet.ensures.less_a

pub returns-in_err-meet-clause-err : goal.returns-in_err-meet-clause-err
returns-in_err-meet-clause-err g c =
    let mine = c.loop-other.one-inside.desk in
    let theirs = c.other.inside.desk in
    let a = session_view mine.seat in
    let b = session_view theirs.seat in
    let a' = session_view c.meet.new.a in
    let b' = session_view c.meet.new.b in
    let missed = c.in_err-meet.ensures in
    let beside = beside_next c.args.one.now c.args.others.now (standing (shown_by a) mine.dead.amount mine.told.amount) c.loop-other.others c.loop-other.other-index
    (standing (shown_by a') mine.dead.amount mine.told.amount) (standing (shown_by b) theirs.dead.amount theirs.told.amount)
    (standing (shown_by b') theirs.dead.amount theirs.told.amount) c.other-item.result (omega arith) c.other.view_is
    (stays_missed mine.dead.amount mine.told.amount a a' missed.less_a)
    (stays_missed theirs.dead.amount theirs.told.amount b b' missed.less_b) c.loop-other.invariant.meets.beside in
    search rules

pub loop-other-preserved : goal.loop-other-preserved
loop-other-preserved g c =
    let mine = c.loop-other.one-inside.desk in
    let theirs = c.other.inside.desk in
    let a = session_view mine.seat in
    let b = session_view theirs.seat in
    let a' = session_view c.meet.new.a in
    let b' = session_view c.meet.new.b in
    let met = c.in_ok-meet.ensures in
    record {
      session =
          session_met g.N.PipeName.table g.N.PipeName.opening _ _ a b a' _ _ _ _ c.loop-other.invariant.session c.meet.ensures.same_a met.met_a;
      meets = meets_next c.args.one.now c.args.others.now (standing (shown_by a) mine.dead.amount mine.told.amount) c.loop-other.others c.loop-other.other-index
          (standing (shown_by a') mine.dead.amount mine.told.amount) (standing (shown_by b) theirs.dead.amount theirs.told.amount)
          (standing (shown_by b') theirs.dead.amount theirs.told.amount) c.other-item.result (omega arith) c.other.view_is
          (stays_met mine.dead.amount mine.told.amount a b a' met.met_a) (stays_met theirs.dead.amount theirs.told.amount b a b' met.met_b)
          c.loop-other.invariant.meets
          (hears_met mine.dead.amount mine.told.amount theirs.dead.amount theirs.told.amount a b a' met.met_a)
          (hears_met theirs.dead.amount theirs.told.amount mine.dead.amount mine.told.amount b a b' met.met_b);
    }

pub returns-clause-met : goal.returns-clause-met
returns-clause-met g c =
    meets_all c.args.one.now _ c.args.others.now c.loop-other.others c.loop-other.other-index c.loop-other.invariant.meets c.loop-other-test.false
