use Rattle.std.proofs.Common.{◌≡◌, None, ◌∙◌, ap, ◌++◌, ◌∷◌, [], arith}
use Rattle.std.proofs.lemmas.Grind.{common_steps}
use Rattle.publish_core.specs.declared.seat.SeatState.{SeatState}
use Rattle.publish_core.specs.Machine.{shown_seat}
use Rattle.publish_core.specs.Kept.{kept_state, seat_of}
use Rattle.publish_core.proofs.Stored.{stored, stored_at}
use Rattle.publish_core.proofs.Seated.{seat_added}
use Rattle.publish_core.proofs.state.KeptState.tell.Goals as goal

pub returns-clause-ok : goal.returns-clause-ok
returns-clause-ok c =
    let s = c.args.self.now in let l = s.seats.items in let x = c.in_ok-seat.seat in
    let p : seat_of c.index.result.now ≡ stored l c.args.from = stored_at l c.args.from c.index.result.now c.requires c.index.ensures in
    let d : seat_of x ≡ shown_seat (stored l c.args.from) c.args.kind None = c.in_ok-seat.ensures ∙ ap (λ (y : SeatState). shown_seat y c.args.kind None) p in
    let items : c.push.new.self.items ≡ l ++ x ∷ [] = grind (arith, common_steps) in
    seat_added (kept_state s) _ l x _ items d
