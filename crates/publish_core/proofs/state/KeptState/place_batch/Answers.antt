use Rattle.std.proofs.Common.{◌≡◌, ◌<◌, ◌+◌, ◌*◌, ◌%◌, ℕ, suc, List, [], ◌∷◌, ◌++◌, length, set, get_or, Some, None, inl, sym, ap, subst, ◌∙◌, arith, length-set, length-append}
use Rattle.batch_repr.specs.declared.limits.TheConstants.{BATCHES_MAX}
use Rattle.publish_core.specs.declared.seat.BatchShape.{BatchShape}
use Rattle.publish_core.specs.declared.seat.SeatState.{SeatState}
use Rattle.publish_core.specs.declared.seat.Stage.TheVariants.{Held, Out}
use Rattle.publish_core.specs.declared.state.TheConstants.{SLOTS, END_LIMIT}
use Rattle.publish_core.specs.Machine.{updated, ends}
use Rattle.publish_core.specs.Parts.{shape_count}
use Rattle.publish_core.specs.Kept.{seat_of, kept_state}
use Rattle.publish_core.proofs.Put.{ends_snoc}
use Rattle.publish_core.proofs.Stored.{stored, stored_at, seat_written, acts_stored, one_pushed, one_set}
use Rattle.publish_core.proofs.state.KeptState.place_batch.Goals as goal

pub invariant_of-self : goal.invariant_of-self
invariant_of-self c =
    let s = c.args.self.now in let b : BatchShape = c.args.batch in let old : List BatchShape = s.batches.items in
    let longer : length (old ++ b ∷ []) ≡ length old + 1 = length-append old (b ∷ []) in
    let batches : length c.push_spare.new.list.items ≡ length old + 1 = ap length c.push_spare.ensures ∙ longer in
    let stages : length c.push_spare-2.new.list.items ≡ length s.stages.items + 1 =
    ap length c.push_spare-2.ensures ∙ length-append s.stages.items (Held 0 ∷ []) in
    let owners : length c.push_spare-3.new.list.items ≡ length s.owners.items + 1 = ap length c.push_spare-3.ensures ∙ length-append s.owners.items (0 ∷ []) in
    let one : suc (length old) ≡ length (old ++ b ∷ []) = omega arith in
    let small : ends shape_count s.base old (length old) + b.count < END_LIMIT = c.requires.possible.6 in
    let room : length old < BATCHES_MAX = c.requires.possible.5 in
    let is = s.end_is in
    record {
      ring_wide = length-set s.ring.items (s.head % SLOTS) _ ∙ s.ring_wide;
      turns_wide = s.turns_wide;
      done_wide = s.done_wide;
      stage_each = stages ∙ ap (λ (n : ℕ). n + 1) s.stage_each ∙ sym batches;
      owner_each = owners ∙ ap (λ (n : ℕ). n + 1) s.owner_each ∙ sym batches;
      few = omega arith;
      end_is = subst (λ (l : List BatchShape). s.end + b.count ≡ ends shape_count s.base l (length l)) (sym c.push_spare.ensures)
          (ap (λ (n : ℕ). n + b.count) s.end_is ∙ sym (ends_snoc shape_count s.base old b) ∙ ap (ends shape_count s.base (old ++ b ∷ [])) one);
      end_small = omega arith;
    }

pub returns : goal.returns
returns c =
    let s = c.args.self.now in let l = s.seats.items in let b : BatchShape = c.args.batch in let n : ℕ = length s.batches.items in
    let lt : 0 < length l = acts_stored l 0 (inl c.requires.possible.1) in
    let p : seat_of c.index_mut-producer.result.now ≡ stored l 0 = stored_at l 0 c.index_mut-producer.result.now lt c.index_mut-producer.ensures.value in
    let slot : s.head % SLOTS < length s.ring.items = let w = s.ring_wide in omega arith in
    let placed : c.len-placed.result ≡ n = omega arith in
    let seen : c.len-placed.result + 1 ≡ suc n = omega arith in
    let stage : (λ (i : ℕ). get_or c.push_spare-2.new.list.items i Out) ≡ updated (kept_state s).stage n (Held 0) =
    (λ k i. get_or (c.push_spare-2.ensures k) i Out) ∙ one_pushed s.stages.items (Held 0) Out
    ∙ (λ k. updated (kept_state s).stage (s.stage_each k) (Held 0)) in
    let owner : (λ (i : ℕ). get_or c.push_spare-3.new.list.items i 0) ≡ updated (kept_state s).owner n 0 =
    (λ k i. get_or (c.push_spare-3.ensures k) i 0) ∙ one_pushed s.owners.items 0 0 ∙ (λ k. updated (kept_state s).owner (s.owner_each k) 0) in
    let ring : (λ (i : ℕ). get_or (set s.ring.items (s.head % SLOTS) (2 * (s.end + b.count))) i 0) ≡ updated (kept_state s).ring (s.head % SLOTS)
    (2 * (ends shape_count s.base s.batches.items n + b.count)) = one_set s.ring.items (s.head % SLOTS) _ 0 slot
    ∙ (λ k. updated (kept_state s).ring (s.head % SLOTS) (2 * (s.end_is k + b.count))) in
    let d : SeatState = record (stored l 0) { held = Some n; reading = None; seen = suc n } in
    let words : ℕ → ℕ = λ i. get_or (set s.ring.items (s.head % SLOTS) (2 * (s.end + b.count))) i 0 in
    seat_written (record (kept_state s) {
      batches = c.push_spare.new.list.items;
      stage = λ i. get_or c.push_spare-2.new.list.items i Out;
      owner = λ i. get_or c.push_spare-3.new.list.items i 0;
      ring = words;
    }) l 0 _ d lt
    (λ k. record (p k) { held = Some (placed k); reading = None; seen = seen k })
    ∙ (λ k. record (kept_state s) { batches = c.push_spare.ensures k; stage = stage k; owner = owner k; ring = ring k; seats = updated (stored l) 0 d })
