-- What a sound state tells of its numbers, to a step that reads them.
use Rattle.std.proofs.Common.{◌≡◌, ◌<◌, ◌≤◌, ◌+◌, ◌*◌, ◌%◌, ℕ, suc, length, Some, sym, subst, ap, refl, arith, lt_of_not-le}
use Rattle.std.proofs.Math.Logic.{∥∥₁_elim}
use Rattle.std.specs.Coded.{le_prop}
use mathlib.Core.HLevel.{⊥_prop}
use Rattle.publish_core.specs.declared.seat.BatchShape.{BatchShape}
use Rattle.publish_core.specs.declared.seat.Kind.{Kind}
use Rattle.publish_core.specs.declared.seat.Kind.TheVariants.{Producer, Note, Worker, Spent}
use Rattle.publish_core.specs.declared.seat.Claim.TheVariants.{Taken, Emptied}
use Rattle.publish_core.specs.declared.state.TheConstants.{SLOTS}
use Rattle.publish_core.specs.Machine.{CoreState, ends, end_of}
use Rattle.publish_core.specs.Parts.{shape_count, has_part, IsSoundCore}
use Rattle.publish_core.specs.Sound.{Sound, Full, bit}
use Rattle.publish_core.proofs.Put.{ends_mono}

module _ (s : CoreState BatchShape) (sound : IsSoundCore s) where
  -- what cannot be false of a sound state
  never : {P : Type 0} → (Sound shape_count has_part s → P) → (P → ⊥) → ⊥
  never f off = ∥∥₁_elim sound ⊥_prop (λ (h : Sound shape_count has_part s). off (f h))

  below : (m n : ℕ) → (Sound shape_count has_part s → m < n) → m < n
  below m n f = lt_of_not-le (λ (b : n ≤ m). never f (λ (a : m < n). omega arith))

  pub head_within : s.head ≤ length s.batches
  head_within = ∥∥₁_elim sound le_prop (λ (h : Sound shape_count has_part s). h.head_length)

  pub tail_within : s.tail ≤ s.head
  tail_within = ∥∥₁_elim sound le_prop (λ (h : Sound shape_count has_part s). h.tail_head)

  -- the seat 0 is the producer's
  pub producer_is : (s.seats 0).kind ≡ Producer
  producer_is = go (s.seats 0).kind (never (λ h. h.producer))
    where
      go : (k : Kind) → ((k ≡ Producer → ⊥) → ⊥) → k ≡ Producer
      go Producer n = refl
      go Note n = absurd (n (λ e. cc))
      go Worker n = absurd (n (λ e. cc))
      go Spent n = absurd (n (λ e. cc))

  pub held_within : (j i : ℕ) → (s.seats j).held ≡ Some i → i < length s.batches
  held_within j i e = below i (length s.batches) (λ h. ((h.each_seat j).held i e).0)

  pub taken_within : (j i : ℕ) → (s.seats j).claim ≡ Taken i → i < length s.batches
  taken_within j i e = below i (length s.batches) (λ h. ((h.each_seat j).taken i e).0)

  pub emptied_within : (j i : ℕ) → (s.seats j).claim ≡ Emptied i → i < length s.batches
  emptied_within j i e = below i (length s.batches) (λ h. ((h.each_seat j).emptied i e).0)

  -- the ring word of a batch that is held is twice an end
  pub word_within : (j i : ℕ) → (s.seats j).held ≡ Some i → s.ring (i % SLOTS) ≤ 2 * ends shape_count s.base s.batches (length s.batches)
  word_within j i e = ∥∥₁_elim sound le_prop (λ (h : Sound shape_count has_part s).
      let x = (h.each_seat j).held i e in let l : i < length s.batches = x.0 in
      let w : s.ring (i % SLOTS) ≡ 2 * end_of shape_count s i + bit (s.stage i) = ((h.each_batch i l).word (subst Full (sym x.1) tt)).0 in
      let z : bit (s.stage i) ≡ 0 = ap bit x.1 in
      let m : end_of shape_count s i ≤ ends shape_count s.base s.batches (length s.batches) =
      ends_mono shape_count s.base s.batches (suc i) (length s.batches) (omega arith) in omega arith)
