-- The batch is applied, marked and published.
use Rattle.commit_queue.specs.Seats.{session_view}
use Rattle.commit_pipeline.proofs.PublishesHeld.{can_mark_applied, publishes_held}
use Rattle.commit_pipeline.proofs.pipeline.Pipeline.publish.Goals as goal

pub mark-requires-clause-applied : goal.mark-requires-clause-applied
mark-requires-clause-applied g c =
    can_mark_applied (session_view c.args.desk.now.seat) (session_view c.apply_all.new.h) c.args.pieces c.args.desk.now.seat.stands.kind
    c.requires.holds c.apply_all.ensures.applied

pub returns-clause-published : goal.returns-clause-published
returns-clause-published g c =
    publishes_held (session_view c.args.desk.now.seat) (session_view c.apply_all.new.h) (session_view c.mark.new.h)
    (session_view c.publish_until.new.s) c.args.end c.requires.no_turn c.requires.end c.apply_all.ensures.applied.0 c.mark.ensures.marked
    c.publish_until.ensures.on c.publish_until.ensures.published
