-- What is answered, by where the commit ended.
use Rattle.std.proofs.Common.{rules, ◌≡◌, ◌<◌, true, false, IsTrue, Result, Err, sym, ◌∙◌, subst}
use Rattle.commit_queue.specs.Seats.{session_view}
use Rattle.commit_queue.specs.Shown.{session_shown}
use Rattle.commit_pipeline.specs.declared.fault.CommitFault.{CommitFault}
use Rattle.commit_pipeline.specs.declared.fault.Committed.{Committed}
use Rattle.commit_pipeline.specs.declared.pipeline.Numbers.{Numbers}
use Rattle.commit_pipeline.specs.declared.session.Session.TheInside.{Inside}
use Rattle.commit_pipeline.specs.declared.standing.Standing.{Standing}
use Rattle.commit_pipeline.specs.Standings.{standing}
use Rattle.commit_pipeline.specs.Commits.{CommitsWell, TellsCommit}
use Rattle.commit_pipeline.specs.Waits.{deaths_waited}
use Rattle.commit_pipeline.proofs.PublishesHeld.{numbered_end}
use Rattle.commit_pipeline.proofs.TellsCommit.{HasPublished, HasWaited, has_published, has_not_waited, session_refused, session_commits, answers_refused, answers_committed, answers_unsynced}
use Rattle.commit_pipeline.proofs.pipeline.Pipeline.commit_pieces.Goals.{then-sync+in_ok-wait_acked, else-sync}
use Rattle.commit_pipeline.proofs.pipeline.Pipeline.commit_pieces.Goals as goal

-- ---- it was refused

pub invariant_of-session : goal.invariant_of-session
invariant_of-session g c =
    session_refused g.N.PipeName.table g.N.PipeName.opening c.args.batch c.in_err-first.field-0.0 _ c.session.inside.desk c.start.new.desk
    c.session.invariant c.in_err-first.ensures.started c.in_err-first.ensures.same c.in_err-first.ensures.own c.in_err-first.ensures.dead
    c.in_err-first.ensures.met.0

pub returns-in_err-first : goal.returns-in_err-first
returns-in_err-first g c =
    let told : CommitFault = c.in_err-first.field-0.0 in
    let answers : c.from_residual.result ≡ Err told = search rules in
    let d = c.session.inside.desk in
    let d' = c.start.new.desk in
    let new : Standing = standing (session_shown d'.seat) d'.dead.amount d'.told.amount in
    subst (λ (s : Standing). TellsCommit g.N.PipeName.opening c.args.batch c.args.sync s c.from_residual.result new) c.session.view_is
    (subst (λ (r : Result Committed CommitFault). TellsCommit g.N.PipeName.opening c.args.batch c.args.sync
    (standing (session_shown d.seat) d.dead.amount d.told.amount) r new) (sym answers)
    (answers_refused g.N.PipeName.opening c.args.batch c.args.sync (session_view d.seat) (session_view d'.seat) d.dead.amount d'.dead.amount d.told.amount
    d'.told.amount told c.session.invariant.base c.session.invariant.within c.in_err-first.ensures.started c.in_err-first.ensures.dead.1
    c.in_err-first.ensures.met.1 c.in_err-first.ensures.lives))

-- ---- it was numbered and published

pub publish-requires-clause-end : goal.publish-requires-clause-end
publish-requires-clause-end g c =
    numbered_end c.args.batch c.in_ok-first.first c.from.result c.in_ok-first.index (session_view c.session.inside.desk.seat)
    (session_view c.start.new.desk.seat) c.in_ok-first.ensures.started (c.from.ensures ∙ c.count-count.ensures.count)

-- and the wait told that it is not synced

published_unsynced : (g : _) (c : goal.After-from_residual-in_err-wait_acked g)
    → HasPublished c.args.batch c.in_ok-first.first c.in_ok-first.index c.session.inside.desk c.publish.new.desk
published_unsynced g c =
    let e = c.in_ok-first.ensures in
    has_published c.args.batch c.in_ok-first.first c.in_ok-first.index c.session.inside.desk c.start.new.desk c.publish.new.desk e.started e.same
    e.own e.dead e.met e.lives c.publish.ensures.published c.publish.ensures.same c.publish.ensures.own c.publish.ensures.dead
    c.publish.ensures.met

waited_unsynced : (g : _) (c : goal.After-from_residual-in_err-wait_acked g)
    → HasWaited (deaths_waited (Err c.in_err-wait_acked.field-0.0)) c.publish.new.desk c.wait_acked.new.desk
waited_unsynced g c =
    let e = c.in_err-wait_acked.ensures in
    record { stays = e.waited.0; same = e.same; own = e.own; dead_parts = e.dead.0; dead = e.dead.1; told = e.met }

pub invariant_of-session-in_err-wait_acked : goal.invariant_of-session-in_err-wait_acked
invariant_of-session-in_err-wait_acked g c =
    session_commits g.N.PipeName.table g.N.PipeName.opening c.args.batch c.in_ok-first.first c.in_ok-first.index _ c.session.inside.desk
    c.publish.new.desk c.wait_acked.new.desk c.session.invariant (published_unsynced g c) (waited_unsynced g c)

pub returns-in_err-wait_acked : goal.returns-in_err-wait_acked
returns-in_err-wait_acked g c =
    let told : CommitFault = c.in_err-wait_acked.field-0.0 in
    let answers : c.from_residual-in_err-wait_acked.result ≡ Err told = search rules in
    let d = c.session.inside.desk in
    let d' = c.wait_acked.new.desk in
    let new : Standing = standing (session_shown d'.seat) d'.dead.amount d'.told.amount in
    let of : Numbers = record { first = c.in_ok-first.first; count = c.count-count.result; index = c.in_ok-first.index } in
    subst (λ (s : Standing). TellsCommit g.N.PipeName.opening c.args.batch c.args.sync s c.from_residual-in_err-wait_acked.result new)
    c.session.view_is
    (subst (λ (r : Result Committed CommitFault). TellsCommit g.N.PipeName.opening c.args.batch c.args.sync
    (standing (session_shown d.seat) d.dead.amount d.told.amount) r new) (sym answers)
    (answers_unsynced g.N.PipeName.opening c.args.batch c.args.sync of told d c.publish.new.desk d' (published_unsynced g c)
    (waited_unsynced g c) c.count-count.ensures.count c.if-sync.true c.in_err-wait_acked.ensures.waited.1))

-- and the wait ended well, or there was none

published_well : (g : _) (c : goal.Joined-sync g)
    → HasPublished c.args.batch c.in_ok-first.first c.in_ok-first.index c.session.inside.desk c.publish.new.desk
published_well g c =
    let e = c.in_ok-first.ensures in
    has_published c.args.batch c.in_ok-first.first c.in_ok-first.index c.session.inside.desk c.start.new.desk c.publish.new.desk e.started e.same
    e.own e.dead e.met e.lives c.publish.ensures.published c.publish.ensures.same c.publish.ensures.own c.publish.ensures.dead
    c.publish.ensures.met

waited_well : (g : _) (c : goal.Joined-sync g)
    → HasWaited 0 c.publish.new.desk c.if-sync.session-inside.desk
    × (IsTrue c.args.sync → c.in_ok-first.index < (session_view c.if-sync.session-inside.desk.seat).seat.acked)
waited_well g c = elim c.if-sync.branch [
  | then-sync+in_ok-wait_acked w ↦
      let e = w.in_ok-wait_acked.ensures in
      subst (λ (s : Inside _ _). HasWaited 0 c.publish.new.desk s.desk
      × (IsTrue c.args.sync → c.in_ok-first.index < (session_view s.desk.seat).seat.acked)) (sym w.session-inside-is) (
        record { stays = e.waited.0; same = e.same; own = e.own; dead_parts = e.dead.0; dead = e.dead.1; told = e.met },
        λ asked. e.waited.1,
      )
  | else-sync w ↦
      subst (λ (s : Inside _ _). HasWaited 0 c.publish.new.desk s.desk
      × (IsTrue c.args.sync → c.in_ok-first.index < (session_view s.desk.seat).seat.acked)) (sym w.session-inside-is) (
        has_not_waited c.args.batch c.in_ok-first.first c.in_ok-first.index c.session.inside.desk c.publish.new.desk (published_well g c),
        λ asked. let clash : true ≡ false = sym asked ∙ w.if-sync.false in absurd cc,
      )
]

pub invariant_of-session-2 : goal.invariant_of-session-2
invariant_of-session-2 g c =
    session_commits g.N.PipeName.table g.N.PipeName.opening c.args.batch c.in_ok-first.first c.in_ok-first.index 0 c.session.inside.desk
    c.publish.new.desk c.if-sync.session-inside.desk c.session.invariant (published_well g c) (waited_well g c).0

pub returns : goal.returns
returns g c =
    let d' = c.if-sync.session-inside.desk in
    let waited = waited_well g c in
    subst (λ (s : Standing). CommitsWell c.args.batch c.args.sync
    (record { first = c.in_ok-first.first; count = c.count-count.result; synced = c.args.sync }) s
    (standing (session_shown d'.seat) d'.dead.amount d'.told.amount)) c.session.view_is
    (answers_committed c.args.batch c.args.sync c.in_ok-first.first c.count-count.result c.in_ok-first.index c.session.inside.desk
    c.publish.new.desk d' (published_well g c) waited.0 c.count-count.ensures.count waited.1)
