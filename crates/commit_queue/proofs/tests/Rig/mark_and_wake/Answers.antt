use Rattle.std.proofs.Common.{ap}
use Rattle.commit_queue.specs.declared.view.View.{View}
use Rattle.commit_queue.specs.Seats.{session_view, note_view}
use Rattle.commit_queue.proofs.AwaitsBatch.{can_mark, holds_adopted, unapplied_adopted, unapplied_again}
use Rattle.commit_queue.proofs.tests.Rig.mark_and_wake.Goals as goal

pub apply_all-requires-clause-unapplied : goal.apply_all-requires-clause-unapplied
apply_all-requires-clause-unapplied g c = let r = c.args.self.now in let parcel = c.remove-note.result in
    let w : View = note_view parcel.note in
    unapplied_adopted (session_view r.one) w _ parcel.pieces r.one_idle.0 r.one_clean
    (unapplied_again w parcel.pieces parcel.unapplied) c.adopt.ensures.adopted

pub mark-requires-clause-applied : goal.mark-requires-clause-applied
mark-requires-clause-applied g c = let r = c.args.self.now in let parcel = c.remove-note.result in
    let w : View = note_view parcel.note in let v : View = session_view c.adopt.new.s in
    let h = unapplied_again w parcel.pieces parcel.unapplied in let only = c.apply_all.ensures.only in
    can_mark v _ (holds_adopted (session_view r.one) w v h.index r.one_idle.0 r.one.stands.kind h.holds c.adopt.ensures.adopted)
    (ap (λ (x : View). x.seat.kind) only) (ap (λ (x : View). x.seat.held) only) (ap (λ (x : View). x.head) only) c.apply_all.ensures.applied
