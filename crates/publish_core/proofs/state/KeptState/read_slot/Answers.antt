use Rattle.std.proofs.Common.{arith, ◌≡◌, ℕ, ap, ◌∙◌, Some}
use Rattle.publish_core.specs.declared.seat.SeatState.{SeatState}
use Rattle.publish_core.specs.Machine.{one_more}
use Rattle.publish_core.specs.Kept.{seat_of, kept_state}
use Rattle.publish_core.proofs.Stored.{stored, stored_at, seat_written, same_default}
use Rattle.publish_core.proofs.state.KeptState.read_slot.Goals as goal

pub returns : goal.returns
returns c =
    let s = c.args.self.now in let l = s.seats.items in let i : ℕ = c.args.seat in let at : ℕ = c.args.at in
    let cell = c.index_mut-reader.result.now in let p : seat_of cell ≡ stored l i = stored_at l i cell c.requires.made c.index_mut-reader.ensures.value in
    let w : c.index-word.result.now ≡ (kept_state s).ring at = same_default s.ring.items at c.index-word.result.now 0 (omega arith) c.index-word.ensures in
    let n : c.saturating_add-reader.result ≡ one_more (stored l i).counts.slots =
    c.saturating_add-reader.ensures ∙ ap (λ (d : SeatState). one_more d.counts.slots) p in
    seat_written (kept_state s) l i _ _ c.requires.made
    (λ k. record (p k) { reading = Some record { at = at; word = w k }; counts = record (p k).counts { slots = n k } })
