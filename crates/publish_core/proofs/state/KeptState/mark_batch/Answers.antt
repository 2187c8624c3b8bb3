use Rattle.std.proofs.Common.{◌≡◌, ℕ, ◌<◌, ◌+◌, ◌%◌, List, [], ◌∷◌, ◌++◌, length, reverse, set, get_or, None, sym, ◌∙◌, ap, arith}
use Rattle.std.proofs.lemmas.List.{reverse-append}
use Rattle.publish_core.specs.declared.seat.SeatState.{SeatState}
use Rattle.publish_core.specs.declared.seat.Stage.TheVariants.{Marked, Out}
use Rattle.publish_core.specs.declared.state.KeptSeat.{KeptSeat}
use Rattle.publish_core.specs.declared.state.TheConstants.{SLOTS}
use Rattle.publish_core.specs.Machine.{updated, held_or}
use Rattle.publish_core.specs.Parts.{shape_count, has_part}
use Rattle.publish_core.specs.Kept.{seat_of, kept_state}
use Rattle.publish_core.proofs.Answered.{on_err}
use Rattle.publish_core.proofs.Marking.{marked_state}
use Rattle.publish_core.proofs.Stored.{stored, stored_at, seat_written, seat_kept, held_stored, one_set, same_default}
use Rattle.publish_core.proofs.state.KeptState.mark_batch.Goals as goal

pub returns-in_err-push-clause-err : goal.returns-in_err-push-clause-err
returns-in_err-push-clause-err c =
    let s = c.args.self.now in let l = s.seats.items in let j : ℕ = c.args.seat in let cell : KeptSeat = c.index_mut-marker.result.now in
    let lt : j < length l = held_stored l j c.args.batch c.requires.held in
    let p : seat_of cell ≡ stored l j = stored_at l j cell lt c.index_mut-marker.ensures.value in
    let own : reverse c.push.new.self.items ≡ (stored l j).own = ap (λ (m : List ℕ). reverse m) c.in_err-push.ensures.items ∙ ap (λ (d : SeatState). d.own) p in
    on_err c.from_residual.result (seat_kept (kept_state s) l j _ lt (λ k. record (p k) { own = own k }))

pub returns-clause-ok : goal.returns-clause-ok
returns-clause-ok c =
    let s = c.args.self.now in let l = s.seats.items in let j : ℕ = c.args.seat in let i : ℕ = c.args.batch in
    let cell : KeptSeat = c.index_mut-marker.result.now in
    let lt : j < length l = held_stored l j i c.requires.held in
    let p : seat_of cell ≡ stored l j = stored_at l j cell lt c.index_mut-marker.ensures.value in
    let w : c.index_mut-2.result.now ≡ (kept_state s).ring (i % SLOTS) =
    same_default s.ring.items (i % SLOTS) c.index_mut-2.result.now 0 (omega arith) c.index_mut-2.ensures.value in
    let stage : (λ (k : ℕ). get_or (set s.stages.items i Marked) k Out) ≡ updated (kept_state s).stage i Marked =
    one_set s.stages.items i Marked Out (omega arith) in
    let ring : (λ (k : ℕ). get_or (set s.ring.items (i % SLOTS) (c.index_mut-2.result.now + 1)) k 0) ≡ updated (kept_state s).ring (i % SLOTS)
    ((kept_state s).ring (i % SLOTS) + 1) =
    one_set s.ring.items (i % SLOTS) (c.index_mut-2.result.now + 1) 0 (omega arith) ∙ (λ k. updated (kept_state s).ring (i % SLOTS) (w k + 1)) in
    let own : reverse (cell.own.items ++ i ∷ []) ≡ i ∷ (stored l j).own = reverse-append cell.own.items (i ∷ []) ∙ ap (λ (d : SeatState). i ∷ d.own) p in
    let d : SeatState = record (stored l j) { held = None; own = i ∷ (stored l j).own } in
    seat_written (record (kept_state s) {
      stage = λ k. get_or (set s.stages.items i Marked) k Out;
      ring = λ k. get_or (set s.ring.items (i % SLOTS) (c.index_mut-2.result.now + 1)) k 0;
    }) l j _ d lt
    (λ k. record (p k) { held = None; own = (ap (λ (m : List ℕ). reverse m) c.in_ok-push.ensures.items ∙ own) k })
    ∙ (λ k. record (kept_state s) { stage = stage k; ring = ring k; seats = updated (stored l) j d })
    ∙ ap (marked_state shape_count has_part (kept_state s) j) (ap (held_or 0) (sym c.requires.held))
