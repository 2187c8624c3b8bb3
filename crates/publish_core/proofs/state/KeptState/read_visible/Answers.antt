use Rattle.std.proofs.Common.{◌≡◌, ℕ, max, ap, ◌∙◌}
use Rattle.publish_core.specs.declared.seat.SeatState.{SeatState}
use Rattle.publish_core.specs.Machine.{one_more}
use Rattle.publish_core.specs.Kept.{seat_of, kept_state}
use Rattle.publish_core.proofs.Stored.{stored, stored_at, seat_written}
use Rattle.publish_core.proofs.state.KeptState.read_visible.Goals as goal

pub returns : goal.returns
returns c =
    let s = c.args.self.now in let l = s.seats.items in let i : ℕ = c.args.seat in
    let cell = c.index_mut-reader.result.now in let p : seat_of cell ≡ stored l i = stored_at l i cell c.requires c.index_mut-reader.ensures.value in
    let m : c.max-reader.result ≡ max (stored l i).seen s.published = c.max-reader.ensures ∙ ap (λ (d : SeatState). max d.seen s.published) p in
    let n : c.saturating_add-reader.result ≡ one_more (stored l i).counts.visibles =
    c.saturating_add-reader.ensures ∙ ap (λ (d : SeatState). one_more d.counts.visibles) p in
    seat_written (kept_state s) l i _ _ c.requires (λ k. record (p k) { published = s.published; seen = m k; counts = record (p k).counts { visibles = n k } })
