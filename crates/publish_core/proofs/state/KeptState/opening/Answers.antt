use Rattle.std.proofs.Common.{◌≡◌, ℕ, List, [], ◌∷◌, ◌++◌, length, map, get_or, reverse, vec_items, ap, ◌∙◌}
use Rattle.publish_core.specs.declared.seat.Kind.TheVariants.{Producer}
use Rattle.publish_core.specs.declared.seat.Stage.TheVariants.{Out}
use Rattle.publish_core.specs.declared.state.KeptSeat.{KeptSeat}
use Rattle.publish_core.specs.declared.state.TheConstants.{SLOTS, SHARDS}
use Rattle.publish_core.specs.Machine.{updated, nobody}
use Rattle.publish_core.proofs.Stored.{stored, seat_pushed, all_same}
use Rattle.publish_core.proofs.state.KeptState.opening.Goals as goal

pub returns : goal.returns
returns c =
    let x : KeptSeat = c.producer.result in
    let l : c.push.new.self.items ≡ x ∷ [] = c.in_ok-push.ensures.items ∙ ap (λ (m : List KeptSeat). m ++ x ∷ []) c.new-seats.ensures.items in
    let q : stored c.push.new.self.items ≡ updated (λ _. nobody) 0 (record nobody { kind = Producer }) =
    ap stored l ∙ seat_pushed [] x ∙ ap (updated (λ _. nobody) 0) c.producer.ensures in
    let zeros : (λ (k : ℕ). get_or c.in_ok-vec.field-0.items k 0) ≡ (λ _. 0) =
    λ i k. ((ap (λ (m : List ℕ). get_or m k 0) (c.in_ok-vec.ensures.items_if_clones_equal (λ y e. e))) ∙ all_same SLOTS 0 k) i in
    let free : (λ (k : ℕ). get_or c.in_ok-vec-2.field-0.items k 0) ≡ (λ _. 0) =
    λ i k. ((ap (λ (m : List ℕ). get_or m k 0) (c.in_ok-vec-2.ensures.items_if_clones_equal (λ y e. e))) ∙ all_same SHARDS 0 k) i in
    let none : (λ (k : ℕ). reverse (get_or (map vec_items c.in_ok-nothing_done.field-0.items) k [])) ≡ (λ _. []) =
    λ i k. reverse (c.in_ok-nothing_done.ensures.empty k i) in
    let no_batch : c.new.result.items ≡ [] = c.new.ensures.items in let no_stage : c.new-2.result.items ≡ [] = c.new-2.ensures.items in
    let no_owner : c.new-3.result.items ≡ [] = c.new-3.ensures.items in
    λ i. record {
      base = c.args.v0;
      batches = no_batch i;
      head = 0;
      tail = 0;
      published = 0;
      acked = 0;
      stage = λ k. get_or (no_stage i) k Out;
      owner = λ k. get_or (no_owner i) k 0;
      done = none i;
      ring = zeros i;
      turn = free i;
      made = length (l i);
      seats = q i;
    }
