-- A limit is told once all that the seat was shown is published.
use Rattle.std.proofs.Common.{Err, refl, subst}
use Rattle.batch_repr.specs.declared.limits.TheConstants.{BATCHES_MAX}
use Rattle.commit_queue.specs.declared.view.View.{View}
use Rattle.commit_queue.specs.Seats.{session_view}
use Rattle.commit_queue.specs.declared.seats.SessionSeat.{SessionSeat}
use Rattle.commit_queue.specs.Shown.{shown_by, session_shown}
use Rattle.commit_pipeline.specs.declared.pipeline.Refusal.{Refusal}
use Rattle.commit_pipeline.specs.declared.pipeline.Refusal.TheVariants.{TooMany, Exhausted}
use Rattle.commit_pipeline.specs.Numbering.{ShowsMany, ShowsExhausted}
use Rattle.commit_pipeline.specs.Waits.{GetsNumber}
use Rattle.commit_pipeline.proofs.GetsNumber.{shown_idle, shown_all, shown_exhausted}
use Rattle.commit_pipeline.proofs.pipeline.Pipeline.start.Goals as goal

pub returns-in-Err-TooMany-clause-started : goal.returns-in-Err-TooMany-clause-started
returns-in-Err-TooMany-clause-started g c =
    let v : View = session_view c.args.desk.now.seat in
    let v1 : View = session_view c.take_number.new.desk.seat in
    let v2 : View = session_view c.publish_until.new.s in
    let next = c.in-Err-TooMany.next in
    let e = c.publish_until.ensures in
    let shows : ShowsMany BATCHES_MAX next (shown_by v) (shown_by v1) =
    subst (λ (s : SessionSeat). GetsNumber c.args.batch (session_shown s) (Err (TooMany next)) (shown_by v1)) c.refuses.ensures.seat
    (subst (λ (r : Refusal). GetsNumber c.args.batch (session_shown c.refuses.new.desk.seat) (Err r) (shown_by v1)) c.in-Err-TooMany.field-0-is
    c.in-Err-TooMany.ensures.taken) in
    (shown_idle v v1 v2 BATCHES_MAX next shows e.on e.published, refl, shown_all v v1 v2 next shows e.on e.published)

pub returns-in-Err-Exhausted-clause-started : goal.returns-in-Err-Exhausted-clause-started
returns-in-Err-Exhausted-clause-started g c =
    let v : View = session_view c.args.desk.now.seat in
    let v1 : View = session_view c.take_number.new.desk.seat in
    let next = c.in-Err-Exhausted.next in
    let e = c.publish_until-in-Err-Exhausted.ensures in
    let exhausted : ShowsExhausted c.args.batch next (shown_by v) (shown_by v1) =
    subst (λ (s : SessionSeat). GetsNumber c.args.batch (session_shown s) (Err (Exhausted next)) (shown_by v1)) c.refuses.ensures.seat
    (subst (λ (r : Refusal). GetsNumber c.args.batch (session_shown c.refuses.new.desk.seat) (Err r) (shown_by v1)) c.in-Err-Exhausted.field-0-is
    c.in-Err-Exhausted.ensures.taken) in
    shown_exhausted c.args.batch v v1 (session_view c.publish_until-in-Err-Exhausted.new.s) next exhausted e.on e.published
