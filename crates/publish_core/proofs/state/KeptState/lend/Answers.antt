use Rattle.std.proofs.Common.{arith, ◌≡◌, ◌≢◌, ℕ, suc, ◌+◌, ap, ◌∙◌, sym, Some}
use Rattle.publish_core.specs.declared.seat.SeatState.{SeatState}
use Rattle.publish_core.specs.Machine.{one_more}
use Rattle.publish_core.specs.Kept.{seat_of, kept_state}
use Rattle.publish_core.proofs.Stored.{stored, stored_at, seat_written, same_default}
use Rattle.publish_core.proofs.Lent.{turn_written, was_free, was_taken}
use Rattle.publish_core.proofs.state.KeptState.lend.Goals as goal

pub returns-then-index-eq0 : goal.returns-then-index-eq0
returns-then-index-eq0 c =
    let s = c.args.self.now in let l = s.seats.items in let i : ℕ = c.args.seat in let k : ℕ = c.args.shard in
    let cell = c.index_mut-asker.result.now in let p : seat_of cell ≡ stored l i = stored_at l i cell c.requires.made c.index_mut-asker.ensures.value in
    let w : c.index.result.now ≡ (kept_state s).turn k = same_default s.turns.items k c.index.result.now 0 (omega arith) c.index.ensures in
    let free : (kept_state s).turn k ≡ 0 = sym w ∙ c.if-index-eq0.true in
    let n : c.from.result ≡ k = c.from.ensures in let v : i + 1 ≡ suc i = omega arith in
    was_free (kept_state s) _ i k free
    (turn_written (kept_state s) s.turns.items k (i + 1) (suc i) l i _ _ (omega arith) v c.requires.made (λ q. record (p q) { turn = Some (n q) }))

pub returns-else-index-eq0 : goal.returns-else-index-eq0
returns-else-index-eq0 c =
    let s = c.args.self.now in let l = s.seats.items in let i : ℕ = c.args.seat in let k : ℕ = c.args.shard in
    let cell = c.index_mut-asker.result.now in let p : seat_of cell ≡ stored l i = stored_at l i cell c.requires.made c.index_mut-asker.ensures.value in
    let w : c.index.result.now ≡ (kept_state s).turn k = same_default s.turns.items k c.index.result.now 0 (omega arith) c.index.ensures in
    let busy : (kept_state s).turn k ≢ 0 = λ z. c.if-index-eq0.false (w ∙ z) in
    let n : c.saturating_add-asker.result ≡ one_more (stored l i).counts.busy =
    c.saturating_add-asker.ensures ∙ ap (λ (d : SeatState). one_more d.counts.busy) p in
    was_taken (kept_state s) _ i k busy
    (seat_written (kept_state s) l i _ _ c.requires.made (λ q. record (p q) { counts = record (p q).counts { busy = n q } }))
