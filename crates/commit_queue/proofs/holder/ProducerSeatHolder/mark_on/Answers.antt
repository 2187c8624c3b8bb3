use Rattle.std.proofs.Common.{ap, subst, sym, arith, ◌∙◌, ◌≡◌, ◌-◌, ℕ, suc, Some, Option}
use Rattle.publish_core.specs.Machine.{ends}
use Rattle.commit_queue.specs.declared.view.View.{View}
use Rattle.commit_queue.specs.Rule.{numbers}
use Rattle.commit_queue.specs.Views.{marked_view}
use Rattle.commit_queue.specs.Calls.{IsAppliedAll}
use Rattle.commit_queue.proofs.Stands.{last_index, producer_marks}
use Rattle.commit_queue.proofs.holder.ProducerSeatHolder.mark_on.Goals as goal

pub mark_at-requires-clause-holds : goal.mark_at-requires-clause-holds
mark_at-requires-clause-holds c = let p = c.args.self.now in let h = c.requires.applied.holds in
    let last : suc h.index ≡ p.head = last_index p.seat.id p.seat.me p.head p.end h.index p.turn p.stands h.holds (h.admitted p.stands.kind) in
    let is : h.index ≡ p.head - 1 = omega arith in h.holds ∙ ap (λ (i : ℕ). Some i) is

pub mark_at-requires-clause-end : goal.mark_at-requires-clause-end
mark_at-requires-clause-end c = let p = c.args.self.now in let v : View = p.seat.me.0 in let h = c.requires.applied.holds in
    let last : suc h.index ≡ p.head = last_index p.seat.id p.seat.me p.head p.end h.index p.turn p.stands h.holds (h.admitted p.stands.kind) in
    let is : h.index ≡ p.head - 1 = omega arith in
    let t = p.stands.holds h.index h.holds in t.1 ∙ ap (λ (i : ℕ). ends numbers v.base v.history (suc i)) is

pub mark_at-requires-clause-small : goal.mark_at-requires-clause-small
mark_at-requires-clause-small c = let h = c.requires.applied.holds in (c.args.self.now.stands.holds h.index h.holds).2

pub mark_at-requires-clause-applied : goal.mark_at-requires-clause-applied
mark_at-requires-clause-applied c = let can = c.requires.applied in let h = can.holds in let p = c.args.self.now in
    let last : suc h.index ≡ p.head = last_index p.seat.id p.seat.me p.head p.end h.index p.turn p.stands h.holds (h.admitted p.stands.kind) in
    let is : h.index ≡ p.head - 1 = omega arith in subst (IsAppliedAll p.seat.me.0) is can.applied

pub returns-clause-marked : goal.returns-clause-marked
returns-clause-marked c = λ i e. let p = c.args.self.now in let h = c.requires.applied.holds in
    let last : suc h.index ≡ p.head = last_index p.seat.id p.seat.me p.head p.end h.index p.turn p.stands h.holds (h.admitted p.stands.kind) in
    let same : h.index ≡ i = (let q : ◌≡◌ {A = Option ℕ} (Some h.index) (Some i) = sym h.holds ∙ e in cc) in
    let is : p.head - 1 ≡ i = omega arith in c.mark_at.ensures.marked ∙ ap (marked_view p.seat.me.0) is

pub invariant_of-self : goal.invariant_of-self
invariant_of-self c = let p = c.args.self.now in
    record {
      stands = producer_marks p.seat.id _ p.seat.me _ (p.head - 1)
          p.head p.end p.turn p.stands c.mark_at.ensures.same.0.1 c.mark_at.ensures.same.1 c.mark_at.ensures.marked;
    }
