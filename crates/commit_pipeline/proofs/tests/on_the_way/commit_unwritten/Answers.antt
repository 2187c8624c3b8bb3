-- It is a session still, though nothing was written.
use Rattle.std.proofs.Common.{rules, ◌≡◌, ap, subst, ◌∙◌}
use Rattle.std.specs.Prelude.{None}
use Rattle.commit_queue.specs.Seats.{session_table, session_view}
use Rattle.commit_queue.specs.declared.seats.SessionSeat.{SessionSeat}
use Rattle.commit_queue.specs.Shown.{session_shown}
use Rattle.commit_pipeline.specs.Numbering.{HoldsNumbered, numbered}
use Rattle.commit_pipeline.proofs.PublishesHeld.{numbered_end}
use Rattle.commit_pipeline.proofs.TellsCommit.{HasPublished, has_published, has_not_waited, session_commits}
use Rattle.commit_pipeline.proofs.tests.on_the_way.commit_unwritten.Goals as goal

pub publish-requires-clause-end : goal.publish-requires-clause-end
publish-requires-clause-end g c =
    numbered_end c.into_parts-batch.result.0 c.in-Ok.first c.from.result c.in-Ok.index (session_view c.refuses.new.desk.seat)
    (session_view c.take_number.new.desk.seat) c.in-Ok.ensures.taken (c.from.ensures ∙ c.count-count.ensures.count)

pub invariant_of-session : goal.invariant_of-session
invariant_of-session g c =
    let batch = c.into_parts-batch.result.0 in
    let d = c.session.inside.desk in
    let d1 = c.refuses.new.desk in
    let d2 = c.take_number.new.desk in
    let d3 = c.publish.new.desk in
    let r = c.refuses.ensures in
    let t = c.in-Ok.ensures in
    let p = c.publish.ensures in
    let none : c.refuses.result ≡ None = search rules in
    let number : HoldsNumbered (numbered batch c.in-Ok.first) c.in-Ok.index (session_shown d.seat) (session_shown d2.seat) =
    subst (λ (s : SessionSeat). HoldsNumbered (numbered batch c.in-Ok.first) c.in-Ok.index (session_shown s) (session_shown d2.seat)) r.seat t.taken in
    let has : HasPublished batch c.in-Ok.first c.in-Ok.index d d3 =
    has_published batch c.in-Ok.first c.in-Ok.index d d2 d3 number (t.same ∙ ap session_table r.seat)
    (search rules) (search rules) (search rules) (r.lives none) p.published p.same p.own p.dead p.met in
    session_commits g.N.PipeName.table g.N.PipeName.opening batch c.in-Ok.first c.in-Ok.index 0 d d3 d3 c.session.invariant has
    (has_not_waited batch c.in-Ok.first c.in-Ok.index d d3 has)
