use Rattle.std.proofs.Common.{◌≡◌, ◌+◌, ◌∷◌, [], ◌++◌, length, sym, ap, ◌∙◌, arith}
use Rattle.commit_pipeline.specs.Standings.{standing}
use Rattle.commit_queue.specs.Seats.{producer_view, session_view}
use Rattle.commit_queue.specs.Shown.{session_shown}
use Rattle.commit_pipeline.proofs.TakesAllBack.{gathers_none, gathers_next, gathers_all}
use Rattle.commit_pipeline.proofs.finishing.gather.Goals as goal

pub loop-session-init : goal.loop-session-init
loop-session-init g c = record {
  table = c.requires.producer;
  gathers = gathers_none c.args.sessions.items (producer_view c.args.producer.now) _ _ _ _ c.requires.spare_own c.requires.spare_dead;
}

pub retire-requires-clause-table : goal.retire-requires-clause-table
retire-requires-clause-table g c = c.loop-session.invariant.table ∙ sym c.requires.table

pub loop-session-preserved : goal.loop-session-preserved
loop-session-preserved g c =
    let desk = c.session.inside.desk in
    let popped = standing (session_shown desk.seat) desk.dead.amount desk.told.amount in
    let last : c.loop-session.sessions.items ≡ c.pop.new.self.items ++ popped ∷ [] =
    c.in-Some.ensures.items ∙ ap (λ s. c.pop.new.self.items ++ s ∷ []) (sym c.session.view_is) in
    record {
      table = c.retire.ensures.same ∙ c.loop-session.invariant.table;
      gathers = gathers_next c.args.sessions.items c.loop-session.sessions.items c.pop.new.self.items (producer_view c.args.producer.now)
          (producer_view c.loop-session.producer) (session_view desk.seat) (producer_view c.retire.new.p) desk.dead.amount desk.told.amount _ _ _ _ _ _ _ _ last
          (omega (arith, c.session.invariant.own_part)) (omega (arith, c.session.invariant.own))
          (omega (arith, c.session.invariant.dead_part, c.session.invariant.told_part))
          (omega arith) c.loop-session.invariant.gathers c.retire.ensures.back;
    }

pub returns-clause-same : goal.returns-clause-same
returns-clause-same g c = c.loop-session.invariant.table

pub returns-clause-back : goal.returns-clause-back
returns-clause-back g c =
    let none : length c.loop-session.sessions.items ≡ 0 = omega (arith, c.in_default.ensures.cases.0) in
    (gathers_all _ _ _ _ _ _ _ _ none c.loop-session.invariant.gathers).0

pub returns-clause-own : goal.returns-clause-own
returns-clause-own g c =
    let none : length c.loop-session.sessions.items ≡ 0 = omega (arith, c.in_default.ensures.cases.0) in
    let all = gathers_all _ _ _ _ _ _ _ _ none c.loop-session.invariant.gathers in
    (all.1 ∙ sym c.args.sessions.ok.0, all.2)

pub returns-clause-dead : goal.returns-clause-dead
returns-clause-dead g c =
    let none : length c.loop-session.sessions.items ≡ 0 = omega (arith, c.in_default.ensures.cases.0) in
    let all = gathers_all _ _ _ _ _ _ _ _ none c.loop-session.invariant.gathers in
    (all.3 ∙ ap (λ n. n + n) (sym c.args.sessions.ok.0), all.4)
