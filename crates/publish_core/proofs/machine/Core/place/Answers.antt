use Rattle.std.proofs.Common.{sym, subst, ap, ◌∙◌}
use Rattle.publish_core.specs.declared.seat.BatchShape.{BatchShape}
use Rattle.publish_core.specs.Machine.{CoreState, Possible, place, after_place}
use Rattle.publish_core.specs.Parts.{shape_count, has_part}
use Rattle.publish_core.specs.Answers.{state_of}
use Rattle.publish_core.proofs.Answered.{stays, did}
use Rattle.publish_core.proofs.Soundness.{producer_is}
use Rattle.publish_core.proofs.machine.Core.place.Goals as goal

pub can_place-requires : goal.can_place-requires
can_place-requires c = producer_is (state_of c.args.self.now) c.args.self.now.sound

pub place_batch-requires-clause-possible : goal.place_batch-requires-clause-possible
place_batch-requires-clause-possible c =
    subst (λ (s : CoreState BatchShape). Possible shape_count has_part s (place c.args.batch)) (sym c.spare_batch.ensures.same)
    (c.can_place.ensures.0 c.if-not-can_place.false)

pub invariant_of-self-2 : goal.invariant_of-self-2
invariant_of-self-2 c = record {
  sound = stays (state_of c.args.self.now) (place c.args.batch) _ c.args.self.now.sound (c.can_place.ensures.0 c.if-not-can_place.false)
      (c.place_batch.ensures ∙ ap (λ (s : CoreState BatchShape). after_place shape_count has_part s c.args.batch) c.spare_batch.ensures.same);
}

pub returns-clause-ok : goal.returns-clause-ok
returns-clause-ok c = did (state_of c.args.self.now) (place c.args.batch) _ (c.can_place.ensures.0 c.if-not-can_place.false)
    (c.place_batch.ensures ∙ ap (λ (s : CoreState BatchShape). after_place shape_count has_part s c.args.batch) c.spare_batch.ensures.same)
