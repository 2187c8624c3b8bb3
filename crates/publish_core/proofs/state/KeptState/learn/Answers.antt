use Rattle.std.proofs.Common.{◌≡◌, ◌<◌, ℕ, ap, ◌∙◌, List, ◌∷◌, [], ◌++◌, reverse, arith, vec_len, vec_capacity}
use Rattle.std.proofs.lemmas.Grind.{common_steps}
use Rattle.publish_core.specs.declared.seat.Pair.{Pair}
use Rattle.publish_core.specs.declared.seat.SeatState.{SeatState}
use Rattle.publish_core.specs.Kept.{seat_of, kept_state}
use Rattle.publish_core.proofs.Stored.{stored, stored_at, seat_written}
use Rattle.publish_core.proofs.Lent.{newest_first}
use Rattle.publish_core.proofs.state.KeptState.learn.Goals as goal

pub returns : goal.returns
returns c =
    let s = c.args.self.now in let l = s.seats.items in let i : ℕ = c.args.seat in let pair : Pair = c.args.pair in
    let cell = c.index_mut.result.now in let p : seat_of cell ≡ stored l i = stored_at l i cell c.requires.made c.index_mut.ensures.value in
    let room : vec_len cell.knows < vec_capacity cell.knows = c.requires.room cell c.index_mut.ensures.value in
    let items : c.push-kept.new.self.items ≡ cell.knows.items ++ pair ∷ [] = grind (arith, common_steps) in
    let n : reverse c.push-kept.new.self.items ≡ pair ∷ (stored l i).knows =
    ap (λ (x : List Pair). reverse x) items ∙ newest_first cell.knows.items pair ∙ ap (λ (d : SeatState). pair ∷ d.knows) p in
    seat_written (kept_state s) l i _ _ c.requires.made (λ q. record (p q) { knows = n q })
