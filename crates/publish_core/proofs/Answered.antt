-- A step that was possible, and changed what its event changes, keeps the machine sound.
use Rattle.std.proofs.Common.{Ok, Err, Result, OnOk, OnErr, true, false, refl, ◌≡◌, sym, subst}
use Rattle.std.proofs.Math.Logic.{∥∥₁_map}
use Rattle.publish_core.specs.declared.seat.BatchShape.{BatchShape}
use Rattle.publish_core.specs.Machine.{CoreState, Event, Possible, after}
use Rattle.publish_core.specs.Parts.{shape_count, has_part, IsSoundCore}
use Rattle.publish_core.specs.Sound.{Sound}
use Rattle.publish_core.specs.Answers.{Answers}
use Rattle.publish_core.proofs.Kept.{kept}

-- soundness goes on
pub stays : (s : CoreState BatchShape) (e : Event BatchShape) (t : CoreState BatchShape) → IsSoundCore s → Possible shape_count has_part s e
    → t ≡ after shape_count has_part s e → IsSoundCore t
stays s e t sound p q = ∥∥₁_map sound (λ (h : Sound shape_count has_part s). subst (Sound shape_count has_part) (sym q) (kept shape_count has_part s h e p))

-- what a step answers that was done
pub did : (s : CoreState BatchShape) (e : Event BatchShape) (t : CoreState BatchShape) → Possible shape_count has_part s e → t ≡ after shape_count has_part s e
    → Answers s e true t
did s e t p q = record { possible = (λ _. p, λ _. refl); done = λ _. q; unchanged = λ n. let z : true ≡ false = n in cc }

-- what a step answers that was not possible
pub did_not : (s : CoreState BatchShape) (e : Event BatchShape) → (Possible shape_count has_part s e → ⊥) → Answers s e false s
did_not s e n = record {
  possible = (λ y. let z : false ≡ true = y in cc, λ p. absurd (n p));
  done = λ y. let z : false ≡ true = y in cc;
  unchanged = λ _. refl;
}

-- soundness goes on where memory may run out, and then nothing changes
pub stays_or : {A E : Type 0} (r : Result A E) (s : CoreState BatchShape) (e : Event BatchShape) (t : CoreState BatchShape) → IsSoundCore s
    → Possible shape_count has_part s e → OnOk r (t ≡ after shape_count has_part s e) → OnErr r (t ≡ s) → IsSoundCore t
stays_or (Ok x) s e t sound p done same = stays s e t sound p done
stays_or (Err x) s e t sound p done same = subst IsSoundCore (sym same) sound

-- a fact holds where a call failed, if it holds
pub on_err : {A E P : Type 0} (r : Result A E) → P → OnErr r P
on_err (Ok x) p = tt
on_err (Err x) p = p
