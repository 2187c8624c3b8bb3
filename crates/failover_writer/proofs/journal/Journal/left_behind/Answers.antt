-- The current segment is the last one.
use Rattle.std.proofs.Common.{◌≡◌, ◌-◌, List, length, Some, sym, subst}
use Rattle.std.specs.Prelude.{slice_get}
use borrow.Author.Tests.{both_ways}
use Rattle.log_writer.specs.Writer.{Writer}
use Rattle.failover_writer.specs.State.{JournalView}
use Rattle.failover_writer.specs.Stepping.{left_behind}
use Rattle.failover_writer.proofs.Accounted.{left_broken, left_whole}
use Rattle.failover_writer.proofs.journal.Journal.left_behind.Goals as goal

pub returns-then-broken : goal.returns-then-broken
returns-then-broken g c =
    let current = subst (λ (ws : List Writer). slice_get ws (length ws - 1) ≡ Some c.in-Some.current.now) c.deref.ensures.value (sym c.in-Some.ensures.value) in
    subst (λ (h : JournalView _). 0 ≡ left_behind h.state.segments) c.self.view_is
    (left_broken c.self.inside.writers.items c.in-Some.current.now current (c.broken.ensures.0 c.if-broken.true))

pub returns-else-broken : goal.returns-else-broken
returns-else-broken g c =
    let current = subst (λ (ws : List Writer). slice_get ws (length ws - 1) ≡ Some c.in-Some.current.now) c.deref.ensures.value (sym c.in-Some.ensures.value) in
    subst (λ (h : JournalView _). 1 ≡ left_behind h.state.segments) c.self.view_is
    (left_whole c.self.inside.writers.items c.in-Some.current.now current (λ broken. both_ways c.broken.result c.if-broken.false (c.broken.ensures.1 broken)))
