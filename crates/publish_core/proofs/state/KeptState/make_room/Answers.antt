use Rattle.std.proofs.Common.{◌≡◌, ℕ, ap, ◌∙◌, List, reverse}
use Rattle.publish_core.specs.declared.seat.Pair.{Pair}
use Rattle.publish_core.specs.Kept.{seat_of, kept_state}
use Rattle.publish_core.proofs.Stored.{stored, stored_at, seat_written}
use Rattle.publish_core.proofs.Lent.{put_same}
use Rattle.publish_core.proofs.state.KeptState.make_room.Goals as goal

pub returns-in_err-reserve-clause-same : goal.returns-in_err-reserve-clause-same
returns-in_err-reserve-clause-same c =
    let s = c.args.self.now in let l = s.seats.items in let i : ℕ = c.args.seat in
    let cell = c.index_mut.result.now in let p : seat_of cell ≡ stored l i = stored_at l i cell c.requires c.index_mut.ensures.value in
    let n : reverse c.reserve.new.self.items ≡ reverse cell.knows.items = ap (λ (x : List Pair). reverse x) c.reserve.ensures.items in
    seat_written (kept_state s) l i _ (stored l i) c.requires ((λ q. record (seat_of cell) { knows = n q }) ∙ p)
    ∙ (λ q. record (kept_state s) { seats = put_same (stored l) i q })

pub returns-clause-same : goal.returns-clause-same
returns-clause-same c =
    let s = c.args.self.now in let l = s.seats.items in let i : ℕ = c.args.seat in
    let cell = c.index_mut.result.now in let p : seat_of cell ≡ stored l i = stored_at l i cell c.requires c.index_mut.ensures.value in
    let n : reverse c.reserve.new.self.items ≡ reverse cell.knows.items = ap (λ (x : List Pair). reverse x) c.reserve.ensures.items in
    seat_written (kept_state s) l i _ (stored l i) c.requires ((λ q. record (seat_of cell) { knows = n q }) ∙ p)
    ∙ (λ q. record (kept_state s) { seats = put_same (stored l) i q })
