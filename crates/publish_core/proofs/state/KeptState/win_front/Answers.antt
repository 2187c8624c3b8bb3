use Rattle.std.proofs.Common.{◌≡◌, ℕ, suc, ◌+◌, max, set, get_or, None, ◌∙◌, arith}
use Rattle.publish_core.specs.declared.seat.Stage.TheVariants.{Claimed, Out}
use Rattle.publish_core.specs.declared.seat.Claim.TheVariants.{Taken}
use Rattle.publish_core.specs.declared.state.KeptSeat.{KeptSeat}
use Rattle.publish_core.specs.Machine.{updated, won}
use Rattle.publish_core.specs.Parts.{shape_count, has_part}
use Rattle.publish_core.specs.Kept.{seat_of, kept_state}
use Rattle.publish_core.proofs.Stored.{stored, stored_at, seat_written, one_set}
use Rattle.publish_core.proofs.state.KeptState.win_front.Goals as goal

pub returns : goal.returns
returns c =
    let s = c.args.self.now in let l = s.seats.items in let j : ℕ = c.args.seat in let t : ℕ = s.tail in let cell : KeptSeat = c.index_mut-winner.result.now in
    let p : seat_of cell ≡ stored l j = stored_at l j cell c.requires.made c.index_mut-winner.ensures.value in
    let stage : (λ (k : ℕ). get_or (set s.stages.items t (Claimed j)) k Out) ≡ updated (kept_state s).stage t (Claimed j) =
    one_set s.stages.items t (Claimed j) Out (omega arith) in
    let next : t + 1 ≡ suc t = omega arith in
    let seen : c.max-winner.result ≡ max (stored l j).seen (suc t) = c.max-winner.ensures ∙ (λ k. max (p k).seen (next k)) in
    seat_written (record (kept_state s) { tail = t + 1; stage = λ k. get_or (set s.stages.items t (Claimed j)) k Out }) l j _ (won shape_count has_part
    (stored l j) t) c.requires.made
    (λ k. record (p k) { loaded = None; reading = None; claim = Taken t; seen = seen k })
    ∙ (λ k. record (kept_state s) { tail = t + 1; stage = stage k; seats = updated (stored l) j (won shape_count has_part (stored l j) t) })
