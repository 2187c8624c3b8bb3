-- The batch is placed, admitted, handed over and adopted.
use Rattle.std.proofs.Common.{◌+◌, ℕ, ap, sym, subst, ◌∙◌}
use Rattle.batch_repr.specs.Batches.{end_of}
use Rattle.commit_queue.specs.declared.view.View.{View}
use Rattle.commit_queue.specs.Calls.{AwaitsBatch}
use Rattle.commit_queue.specs.Seats.{producer_view, session_view, note_view}
use Rattle.commit_pipeline.proofs.Enters.{awaits_entered, numbered_entered}
use Rattle.commit_pipeline.proofs.entering.enter.Goals as goal

pub returns-clause-awaits : goal.returns-clause-awaits
returns-clause-awaits g c =
    let placed = c.place.ensures.placed in
    subst (λ (n : ℕ). AwaitsBatch (producer_view c.hand_over-note.new.p) (end_of c.args.batch) (n + 1))
    (sym (c.admit-index.ensures.index ∙ ap (λ (v : View). v.head) placed))
    (awaits_entered c.args.batch (producer_view c.args.producer.now) (producer_view c.place.new.p) (producer_view c.admit-index.new.p)
    (producer_view c.hand_over-note.new.p) (producer_view c.args.producer.now).head placed c.admit-index.ensures.admitted
    c.hand_over-note.ensures.given.left c.requires.awaits)

pub returns-clause-numbered : goal.returns-clause-numbered
returns-clause-numbered g c =
    let placed = c.place.ensures.placed in
    let awaits = c.requires.awaits in
    numbered_entered c.args.batch c.admit-index.result (producer_view c.args.producer.now) (producer_view c.place.new.p)
    (producer_view c.admit-index.new.p) (session_view c.args.seat.now) (note_view c.hand_over-note.result) (session_view c.adopt.new.s)
    placed c.admit-index.ensures.admitted c.hand_over-note.ensures.given.note
    (awaits.placed_is ∙ sym (c.admit-index.ensures.index ∙ ap (λ (v : View). v.head) placed))
    c.requires.idle c.requires.base awaits.next_is c.requires.within c.adopt.ensures.adopted
