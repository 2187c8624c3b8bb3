-- The current segment is the last one.
use Rattle.std.proofs.Common.{◌≡◌, inl, inr, ◌-◌, ◌<◌, ◌≤◌, List, length, Some, ap, sym, subst, ◌∙◌, arith}
use Rattle.std.specs.Prelude.{slice_get}
use borrow.Author.Tests.{ltb-true, ltb-false, lt-ltb, both_ways}
use Rattle.log_writer.specs.Writer.{Writer}
use Rattle.failover_writer.specs.State.{JournalView}
use Rattle.failover_writer.proofs.Current.{works_by, more_by}
use Rattle.failover_writer.proofs.journal.Journal.has_work.Goals as goal
use Rattle.failover_writer.proofs.journal.Journal.has_work.Goals.{then-broken, else-broken}

pub returns-then-written-end : goal.returns-then-written-end
returns-then-written-end g c =
    let same = ap (λ (held : JournalView _). held.state) c.self.view_is in
    let current = subst (λ (ws : List Writer). slice_get ws (length ws - 1) ≡ Some c.in-Some.current.now) c.deref.ensures.value (sym c.in-Some.ensures.value) in
    let behind = c.is_behind.ensures.0 c.if-not-is_behind.false in
    elim c.if-broken.branch [
      | then-broken w ↦ (
        λ t. works_by _ c.args.self.now.state c.in-Some.current.now same current behind
            (inl (c.broken.ensures.0 w.if-broken.true)),
        λ h. c.if-written-end.true,
      )
      | else-broken w ↦
          let below : w.written.result < w.end.result = ltb-true _ _ (sym w.value-is ∙ c.if-written-end.true) in (
            λ t. works_by _ c.args.self.now.state c.in-Some.current.now same current behind
                (inr (inl (omega (arith, below, w.written.ensures, w.end.ensures)))),
            λ h. c.if-written-end.true,
          )
    ]

pub returns-else-written-end : goal.returns-else-written-end
returns-else-written-end g c =
    let same = ap (λ (held : JournalView _). held.state) c.self.view_is in
    let current = subst (λ (ws : List Writer). slice_get ws (length ws - 1) ≡ Some c.in-Some.current.now) c.deref.ensures.value (sym c.in-Some.ensures.value) in
    let behind = c.is_behind.ensures.0 c.if-not-is_behind.false in
    elim c.if-broken.branch [
      | then-broken w ↦ absurd (both_ways c.if-broken.value c.if-written-end.false (w.value-is ∙ w.if-broken.true))
      | else-broken w ↦
          let covered : w.end.result ≤ w.written.result = ltb-false _ _ (sym w.value-is ∙ c.if-written-end.false) in (
            λ t. works_by _ c.args.self.now.state c.in-Some.current.now same current behind
                (inr (inr (let wanted = ltb-true c.self.inside.acked c.self.inside.want t in omega
                (arith, wanted, c.self.invariant.acked)))),
            λ h. elim (more_by _ c.args.self.now.state c.in-Some.current.now same current h) [
              | inl broken ↦ absurd (both_ways c.broken.result w.if-broken.false (c.broken.ensures.1 broken))
              | inr (inl less) ↦ absurd (omega (arith, less, covered, w.written.ensures, w.end.ensures))
              | inr (inr wanted) ↦ lt-ltb c.self.inside.acked c.self.inside.want (omega (arith, wanted, c.self.invariant.acked))
            ],
          )
    ]
