-- The visible number is not above the next one, and the producer's seat shows all.
use Rattle.std.proofs.Common.{◌<◌, ◌+◌, sym, subst, ◌∙◌}
use Rattle.batch_repr.specs.declared.limits.TheConstants.{NUMBER_MAX, BATCHES_MAX}
use Rattle.batch_repr.specs.Batches.{count_of}
use Rattle.commit_queue.specs.Seats.{producer_view, session_view}
use Rattle.commit_queue.proofs.Laws.{sees_goes_on}
use Rattle.commit_pipeline.specs.Sides.{CommitView}
use Rattle.commit_pipeline.proofs.Showing.{shows_all, shows_exhausted}
use Rattle.commit_pipeline.proofs.commit_side.CommitSide.tell_exhausted.Goals as goal

pub returns-clause-told : goal.returns-clause-told
returns-clause-told g c =
    let p = producer_view c.self.inside.producer in
    let v = session_view c.args.desk.now.seat in
    let v1 = session_view c.visible.new.h in
    let v' = session_view c.show.new.s in
    let next = c.self.inside.next in
    let placed = c.self.inside.placed in
    let sees = c.visible.ensures.seen in
    let few : placed < BATCHES_MAX = subst (λ (s : CommitView). s.placed < BATCHES_MAX) (sym c.self.view_is) c.requires.few in
    let over : NUMBER_MAX < next + count_of c.args.batch =
    subst (λ (s : CommitView). NUMBER_MAX < s.next + count_of c.args.batch) (sym c.self.view_is) c.requires.over in
    shows_exhausted c.args.batch v v1 v' c.visible.result next placed sees c.if-visible-next.false
    (shows_all p v1 v' next placed c.self.invariant.0.awaits ((sees_goes_on v v1 c.visible.result sees).held ∙ c.requires.desk.idle.0)
    c.show.ensures.shown) few over
