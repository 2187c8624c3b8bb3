use Rattle.std.proofs.Common.{arith, ◌≡◌, ℕ, ap, ◌∙◌, sym, refl, None}
use Rattle.publish_core.specs.Machine.{updated, turn_or}
use Rattle.publish_core.specs.Kept.{seat_of, kept_state}
use Rattle.publish_core.proofs.Stored.{stored, stored_at}
use Rattle.publish_core.proofs.Lent.{turn_written}
use Rattle.publish_core.proofs.state.KeptState.end_turn.Goals as goal

pub returns : goal.returns
returns c =
    let s = c.args.self.now in let l = s.seats.items in let i : ℕ = c.args.seat in let k : ℕ = c.args.shard in
    let cell = c.index_mut.result.now in let p : seat_of cell ≡ stored l i = stored_at l i cell c.requires.made c.index_mut.ensures.value in
    let t : k ≡ turn_or 0 (stored l i).turn = sym (ap (turn_or 0) c.requires.turn) in
    turn_written (kept_state s) s.turns.items k 0 0 l i _ _ (omega arith) refl c.requires.made (λ q. record (p q) { turn = None })
    ∙ (λ q. record (kept_state s) { turn = updated (kept_state s).turn (t q) 0; seats = updated (stored l) i (record (stored l i) { turn = None }) })
