use Rattle.std.proofs.Common.{◌≡◌, ℕ, suc, ◌+◌, max, set, get_or, sym, ap, ◌∙◌, arith}
use Rattle.publish_core.specs.declared.seat.SeatState.{SeatState}
use Rattle.publish_core.specs.declared.seat.Stage.TheVariants.{Out}
use Rattle.publish_core.specs.declared.seat.Claim.TheVariants.{Free}
use Rattle.publish_core.specs.declared.state.KeptSeat.{KeptSeat}
use Rattle.publish_core.specs.Machine.{updated, taken_or}
use Rattle.publish_core.specs.Parts.{shape_count, has_part}
use Rattle.publish_core.specs.Kept.{seat_of, kept_state}
use Rattle.publish_core.proofs.Front.{raised_state}
use Rattle.publish_core.proofs.Stored.{stored, stored_at, seat_written, one_set}
use Rattle.publish_core.proofs.state.KeptState.raise_published.Goals as goal

pub returns : goal.returns
returns c =
    let s = c.args.self.now in let l = s.seats.items in let j : ℕ = c.args.seat in let i : ℕ = c.args.batch in
    let cell : KeptSeat = c.index_mut-raiser.result.now in
    let p : seat_of cell ≡ stored l j = stored_at l j cell c.requires.made c.index_mut-raiser.ensures.value in
    let next : i + 1 ≡ suc i = omega arith in
    let n : c.max-published.result ≡ max s.published (suc i) = c.max-published.ensures ∙ ap (max s.published) next in
    let seen : c.max-raiser.result ≡ max (stored l j).seen (max s.published (suc i)) = c.max-raiser.ensures ∙ (λ k. max (p k).seen (n k)) in
    let stage : (λ (k : ℕ). get_or (set s.stages.items i Out) k Out) ≡ updated (kept_state s).stage i Out = one_set s.stages.items i Out Out (omega arith) in
    let d : SeatState = record (stored l j) { claim = Free; published = max s.published (suc i); seen = max (stored l j).seen (max s.published (suc i)) } in
    seat_written (record (kept_state s) { stage = λ k. get_or (set s.stages.items i Out) k Out; published = c.max-published.result }) l j _ d c.requires.made
    (λ k. record (p k) { claim = Free; published = n k; seen = seen k })
    ∙ (λ k. record (kept_state s) { stage = stage k; published = n k; seats = updated (stored l) j d })
    ∙ ap (raised_state shape_count has_part (kept_state s) j) (ap (taken_or 0) (sym c.requires.emptied))
