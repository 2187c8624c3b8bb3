use Rattle.std.proofs.Common.{◌≡◌, ℕ, ap, ◌∙◌, Some, None}
use Rattle.publish_core.specs.declared.seat.SeatState.{SeatState}
use Rattle.publish_core.specs.Machine.{one_more}
use Rattle.publish_core.specs.Kept.{seat_of, kept_state}
use Rattle.publish_core.proofs.Stored.{stored, stored_at, seat_written}
use Rattle.publish_core.proofs.state.KeptState.read_ends.Goals as goal

pub returns : goal.returns
returns c =
    let s = c.args.self.now in let l = s.seats.items in let i : ℕ = c.args.seat in
    let cell = c.index_mut-reader.result.now in let p : seat_of cell ≡ stored l i = stored_at l i cell c.requires c.index_mut-reader.ensures.value in
    let n : c.saturating_add-reader.result ≡ one_more (stored l i).counts.ends =
    c.saturating_add-reader.ensures ∙ ap (λ (d : SeatState). one_more d.counts.ends) p in
    seat_written (kept_state s) l i _ _ c.requires
    (λ k. record (p k) { loaded = Some record { head = s.head; tail = s.tail }; reading = None; counts = record (p k).counts { ends = n k } })
