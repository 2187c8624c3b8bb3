use Rattle.std.proofs.Common.{◌≡◌, ℕ, ◌+◌, Some, ◌∙◌, ap, ◌++◌, ◌∷◌, [], List, None, length, get_or, set, arith, length-set, length-append}
use Rattle.std.proofs.lemmas.Grind.{common_steps}
use Rattle.publish_core.specs.declared.seat.SeatState.{SeatState}
use Rattle.publish_core.specs.declared.seat.Kind.TheVariants.{Note}
use Rattle.publish_core.specs.declared.seat.Stage.TheVariants.{Held, Out}
use Rattle.publish_core.specs.declared.state.KeptSeat.{KeptSeat}
use Rattle.publish_core.specs.Machine.{shown_seat, updated}
use Rattle.publish_core.specs.Kept.{kept_state, seat_of}
use Rattle.publish_core.proofs.Stored.{stored, stored_at, one_set}
use Rattle.publish_core.proofs.Seated.{batch_given}
use Rattle.publish_core.proofs.state.KeptState.hand.Goals as goal

pub returns-clause-ok : goal.returns-clause-ok
returns-clause-ok c =
    let s = c.args.self.now in let l = s.seats.items in let x = c.in_ok-seat.seat in let m = c.push.new.self.items in let i : ℕ = c.args.batch in
    let n : ℕ = c.len-note.result in
    let count : n ≡ length l = omega arith in
    let p : seat_of c.index.result.now ≡ stored l 0 = stored_at l 0 c.index.result.now c.requires.made c.index.ensures in
    let d : seat_of x ≡ shown_seat (stored l 0) Note (Some i) = c.in_ok-seat.ensures ∙ ap (λ (y : SeatState). shown_seat y Note (Some i)) p in
    let items : m ≡ l ++ x ∷ [] = grind (arith, common_steps) in
    let seats = batch_given l m x c.index_mut.result.now _ c.requires.made items d c.index_mut.ensures.value in
    let made : length (set m 0 (record c.index_mut.result.now { held = None })) ≡ length l + 1 =
    length-set m 0 _ ∙ ap (λ (y : List KeptSeat). length y) items ∙ length-append l (x ∷ []) in
    let stages : (λ k. get_or (set s.stages.items i (Held n)) k Out) ≡ updated (λ k. get_or s.stages.items k Out) i (Held (length l)) =
    one_set s.stages.items i (Held n) Out (omega arith) ∙ ap (λ (y : ℕ). updated (λ k. get_or s.stages.items k Out) i (Held y)) count in
    let owners : (λ k. get_or (set s.owners.items i n) k 0) ≡ updated (λ k. get_or s.owners.items k 0) i (length l) =
    one_set s.owners.items i n 0 (omega arith) ∙ ap (updated (λ k. get_or s.owners.items k 0) i) count in
    λ k. record (kept_state s) { made = made k; stage = stages k; owner = owners k; seats = seats k }
