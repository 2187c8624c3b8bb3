use Rattle.std.proofs.Common.{Some, ap, arith, suc, ℕ, ◌-◌, ◌≡◌, ◌<◌, ◌∙◌}
use Rattle.commit_queue.proofs.Stands.{last_index, note_opens, producer_hands}
use Rattle.commit_queue.proofs.pipe_table.PipeTable.hand.Goals as goal

pub hand_at-seat-requires-clause-holds : goal.hand_at-seat-requires-clause-holds
hand_at-seat-requires-clause-holds c = let p = c.args.p.now in let h = c.requires.holds in
    let below : h.index < p.seat.me.0.head = h.admitted p.stands.kind in
    let last : suc h.index ≡ p.head = last_index p.seat.id p.seat.me p.head p.end h.index p.turn p.stands h.holds below in
    let is : h.index ≡ p.head - 1 = omega arith in (h.holds ∙ ap (λ (i : ℕ). Some i) is, omega arith)

pub invariant_of-p : goal.invariant_of-p
invariant_of-p c = let p = c.args.p.now in let s = c.hand_at-seat.ensures in
    record { stands = producer_hands p.seat.id _ p.seat.me _ p.head p.end p.turn p.stands s.same.1 s.left }

pub invariant_of-result : goal.invariant_of-result
invariant_of-result c = let p = c.args.p.now in let h = c.requires.holds in
    let below : h.index < p.seat.me.0.head = h.admitted p.stands.kind in
    let last : suc h.index ≡ p.head = last_index p.seat.id p.seat.me p.head p.end h.index p.turn p.stands h.holds below in
    let is : h.index ≡ p.head - 1 = omega arith in
    record {
      stands = note_opens p.seat.me _ p.head p.end (p.head - 1) p.seat.id p.turn p.stands c.hand_at-seat.ensures.note
          (h.holds ∙ ap (λ (i : ℕ). Some i) is);
    }
