use Rattle.std.proofs.Common.{◌≡◌, ℕ, ◌%◌, set, get_or, sym, ap, ◌∙◌, arith}
use Rattle.publish_core.specs.declared.seat.Stage.TheVariants.{Cleared, Out}
use Rattle.publish_core.specs.declared.seat.Claim.TheVariants.{Emptied}
use Rattle.publish_core.specs.declared.state.KeptSeat.{KeptSeat}
use Rattle.publish_core.specs.declared.state.TheConstants.{SLOTS}
use Rattle.publish_core.specs.Machine.{updated, taken_or}
use Rattle.publish_core.specs.Parts.{shape_count, has_part}
use Rattle.publish_core.specs.Kept.{seat_of, kept_state}
use Rattle.publish_core.proofs.Front.{emptied_state}
use Rattle.publish_core.proofs.Stored.{stored, stored_at, seat_written, one_set}
use Rattle.publish_core.proofs.state.KeptState.clear_slot.Goals as goal

pub returns : goal.returns
returns c =
    let s = c.args.self.now in let l = s.seats.items in let j : ℕ = c.args.seat in let i : ℕ = c.args.batch in let cell : KeptSeat = c.index_mut-3.result.now in
    let p : seat_of cell ≡ stored l j = stored_at l j cell c.requires.made c.index_mut-3.ensures.value in
    let stage : (λ (k : ℕ). get_or (set s.stages.items i (Cleared j)) k Out) ≡ updated (kept_state s).stage i (Cleared j) =
    one_set s.stages.items i (Cleared j) Out (omega arith) in
    let ring : (λ (k : ℕ). get_or (set s.ring.items (i % SLOTS) 0) k 0) ≡ updated (kept_state s).ring (i % SLOTS) 0 =
    one_set s.ring.items (i % SLOTS) 0 0 (omega arith) in
    seat_written (record (kept_state s) {
      stage = λ k. get_or (set s.stages.items i (Cleared j)) k Out;
      ring = λ k. get_or (set s.ring.items (i % SLOTS) 0) k 0;
    }) l j _ (record (stored l j) { claim = Emptied i }) c.requires.made
    (λ k. record (p k) { claim = Emptied i })
    ∙ (λ k. record (kept_state s) { stage = stage k; ring = ring k; seats = updated (stored l) j (record (stored l j) { claim = Emptied i }) })
    ∙ ap (emptied_state shape_count has_part (kept_state s) j) (ap (taken_or 0) (sym c.requires.taken))
