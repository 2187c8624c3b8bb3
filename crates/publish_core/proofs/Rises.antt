-- The visible number never falls.
use Rattle.std.proofs.Common.{◌≡◌, ℕ, suc, ◌≤◌, max, Bool, true, false, cond, List, [], ◌∷◌, ◌++◌, Option, Some, None, sym, subst, ⊎_elim, le_trans, le_refl, arith, ◌==◌}
use Rattle.publish_core.specs.Machine.{CoreState, Event, load_slot, place, admit, load_ends, mark, claim, empty_slot, raise_visible, load_visible, raise_acked, load_acked, split, join, take_shard, give_shard, Possible, after, visible, taken_or, handed, is_same_ends, after_split, after_claim_won, after_claim_lost, after_take, after_busy}
use Rattle.publish_core.specs.Sound.{Sound}
use Rattle.publish_core.specs.Schedule.{opening, takes, Leads, NeverFalls}
use Rattle.publish_core.proofs.Put.{ends_append, ends_mono}
use Rattle.publish_core.proofs.Kept.{kept, opens, well}

module _ {B : Type 0} (count : B → ℕ) (touches : B → ℕ → Bool) where
  rises : (s : CoreState B) → Sound count touches s → (e : Event B) → visible count s ≤ visible count (after count touches s e)
  rises s sound (load_slot j at) = le_refl (visible count s)
  rises s sound (place b) = let a = sound.published_tail in let c = sound.tail_head in let d = sound.head_length in
      subst (λ (x : ℕ). visible count s ≤ x) (sym (ends_append count s.base s.batches (b ∷ []) s.published (omega arith))) (le_refl (visible count s))
  rises s sound admit = le_refl (visible count s)
  rises s sound (load_ends j) = le_refl (visible count s)
  rises s sound (mark j) = le_refl (visible count s)
  rises s sound (claim j) = go (is_same_ends count touches (s.seats j).loaded s.head s.tail)
    where
      go : (b : Bool) → visible count s ≤ visible count (cond b (after_claim_won count touches s j) (after_claim_lost count touches s j))
      go true = le_refl (visible count s)
      go false = le_refl (visible count s)
  rises s sound (empty_slot j) = le_refl (visible count s)
  rises s sound (raise_visible j) = ends_mono count s.base s.batches s.published (max s.published (suc (taken_or 0 (s.seats j).claim))) (omega arith)
  rises s sound (load_visible j) = le_refl (visible count s)
  rises s sound (raise_acked n) = le_refl (visible count s)
  rises s sound (load_acked j) = le_refl (visible count s)
  rises s sound (split f n) = go (cond (f == 0) (handed s.head (s.seats 0).held n) None)
    where
      go : (h : Option ℕ) → visible count s ≤ visible count (after_split count touches s f n h)
      go None = le_refl (visible count s)
      go (Some i) = le_refl (visible count s)
  rises s sound (join i n) = le_refl (visible count s)
  rises s sound (take_shard j k) = go (s.turn k == 0)
    where
      go : (b : Bool) → visible count s ≤ visible count (cond b (after_take count touches s j k) (after_busy count touches s j))
      go true = le_refl (visible count s)
      go false = le_refl (visible count s)
  rises s sound (give_shard j true) = le_refl (visible count s)
  rises s sound (give_shard j false) = le_refl (visible count s)

  all_rise : (s : CoreState B) → Sound count touches s → (es : List (Event B)) (t : CoreState B) (xs : List ℕ) → Leads count touches s es t xs
      → visible count s ≤ visible count t
  all_rise s sound [] t xs h = subst (λ (x : CoreState B). visible count s ≤ visible count x) (sym h.0) (le_refl (visible count s))
  all_rise s sound (e ∷ es) t xs h = ⊎_elim
      (λ (a : Possible count touches s e × ((ys : List ℕ) × (xs ≡ takes count touches s e ++ ys) × Leads count touches (after count touches s e) es t ys)).
      le_trans (rises s sound e) (all_rise (after count touches s e) (kept count touches s sound e a.0) es t a.1.0 a.1.2))
      (λ (a : (Possible count touches s e → ⊥) × Leads count touches s es t xs). all_rise s sound es t xs a.1) h

  pub never_falls : NeverFalls count touches
  never_falls v0 es fs s t xs ys a b = all_rise s (well count touches (opening v0) (opens count touches v0) es s xs a).0 fs t ys b
