use Rattle.std.proofs.Common.{ap, subst, sym, ◌∙◌, ℕ, suc, Some}
use Rattle.publish_core.specs.Machine.{ends}
use Rattle.commit_queue.specs.declared.view.View.{View}
use Rattle.commit_queue.specs.Rule.{numbers}
use Rattle.commit_queue.specs.Views.{marked_view}
use Rattle.commit_queue.specs.Calls.{IsAppliedAll}
use Rattle.commit_queue.proofs.Stands.{session_marks}
use Rattle.commit_queue.proofs.holder.SessionSeatHolder.mark_on.Goals as goal

pub mark_at-requires-clause-holds : goal.mark_at-requires-clause-holds
mark_at-requires-clause-holds c = let h = c.requires.applied.holds in
    let t = c.args.self.now.stands.ticket h.index h.holds in h.holds ∙ ap (λ (i : ℕ). Some i) t.0

pub mark_at-requires-clause-end : goal.mark_at-requires-clause-end
mark_at-requires-clause-end c = let h = c.requires.applied.holds in let v : View = c.args.self.now.seat.me.0 in
    let t = c.args.self.now.stands.ticket h.index h.holds in t.2 ∙ ap (λ (i : ℕ). ends numbers v.base v.history (suc i)) t.0

pub mark_at-requires-clause-small : goal.mark_at-requires-clause-small
mark_at-requires-clause-small c = let h = c.requires.applied.holds in (c.args.self.now.stands.ticket h.index h.holds).3

pub mark_at-requires-clause-applied : goal.mark_at-requires-clause-applied
mark_at-requires-clause-applied c = let can = c.requires.applied in let s = c.args.self.now in
    subst (IsAppliedAll s.seat.me.0) (s.stands.ticket can.holds.index can.holds.holds).0 can.applied

pub returns-clause-marked : goal.returns-clause-marked
returns-clause-marked c = λ i e. let t = c.args.self.now.stands.ticket i e in c.mark_at.ensures.marked
    ∙ ap (marked_view c.args.self.now.seat.me.0) (sym t.0)

pub invariant_of-self : goal.invariant_of-self
invariant_of-self c = let s = c.args.self.now in
    record { stands = session_marks s.seat.me _ s.index s.index s.end s.turn s.stands c.mark_at.ensures.same.1 c.mark_at.ensures.marked }
