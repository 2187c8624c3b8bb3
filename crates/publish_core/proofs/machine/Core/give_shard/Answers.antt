use Rattle.std.proofs.Common.{◌≡◌, true, false, sym, ◌∙◌, subst, Some}
use Rattle.publish_core.specs.declared.seat.BatchShape.{BatchShape}
use Rattle.publish_core.specs.Machine.{CoreState, give_shard}
use Rattle.publish_core.specs.Parts.{IsSoundCore}
use Rattle.publish_core.specs.Answers.{state_of}
use Rattle.publish_core.specs.Lent.{CanApply}
use Rattle.publish_core.proofs.Answered.{stays}
use Rattle.publish_core.proofs.Lent.{turn_small, either, gave, gave_applied}
use Rattle.publish_core.proofs.Soundness.{held_within}
use Rattle.publish_core.proofs.machine.Core.give_shard.Goals as goal

pub end_turn-requires-clause-within : goal.end_turn-requires-clause-within
end_turn-requires-clause-within c = let s = c.args.self.now in turn_small (state_of s) s.sound c.args.seat c.in-Some.shard (sym c.in-Some.ensures)

pub invariant_of-self : goal.invariant_of-self
invariant_of-self c =
    let s = c.args.self.now in let turn : ((state_of s).seats c.args.seat).turn ≡ Some c.in-Some.shard = sym c.in-Some.ensures in
    record {
      sound = stays (state_of s) (give_shard c.args.seat c.args.apply) _ s.sound
          (c.acts.ensures.acts.0 c.if-not-acts.false, (c.in-Some.shard, turn, λ yes. let z : true ≡ false = sym yes ∙ c.if-not-apply.true in cc))
          (gave (state_of s) _ c.args.seat c.args.apply c.if-not-apply.true c.end_turn.ensures);
    }

pub can_apply-requires-clause-placed : goal.can_apply-requires-clause-placed
can_apply-requires-clause-placed c = let s = c.args.self.now in
    held_within (state_of s) s.sound c.args.seat c.in-Some-held_by.batch (sym c.in-Some-held_by.ensures)

pub can_apply-requires-clause-within : goal.can_apply-requires-clause-within
can_apply-requires-clause-within c = let s = c.args.self.now in turn_small (state_of s) s.sound c.args.seat c.in-Some.shard (sym c.in-Some.ensures)

pub apply-requires-clause-within : goal.apply-requires-clause-within
apply-requires-clause-within c = let s = c.args.self.now in turn_small (state_of s) s.sound c.args.seat c.in-Some.shard (sym c.in-Some.ensures)

pub invariant_of-self-2 : goal.invariant_of-self-2
invariant_of-self-2 c =
    let s = c.args.self.now in let t : CoreState BatchShape = state_of s in
    let turn : (t.seats c.args.seat).turn ≡ Some c.in-Some.shard = sym c.in-Some.ensures in
    let held : (t.seats c.args.seat).held ≡ Some c.in-Some-held_by.batch = sym c.in-Some-held_by.ensures in
    let can : CanApply t c.in-Some-held_by.batch c.in-Some.shard = c.can_apply.ensures.0 c.if-not-can_apply.false in
    record {
      sound = either c.apply.result _ _ _ c.apply.ensures.ok c.apply.ensures.err
          (λ e. stays t (give_shard c.args.seat c.args.apply) _ s.sound
          (c.acts.ensures.acts.0 c.if-not-acts.false, (c.in-Some.shard, turn, λ _. (c.in-Some-held_by.batch, can.0, held, can.1, can.2, can.3)))
          (gave_applied t _ c.args.seat c.args.apply c.if-not-apply.false e))
          (λ e. subst IsSoundCore (sym e) s.sound);
    }
