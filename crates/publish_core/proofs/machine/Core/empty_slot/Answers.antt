use Rattle.publish_core.specs.Machine.{empty_slot}
use Rattle.publish_core.specs.Answers.{state_of}
use Rattle.publish_core.proofs.Answered.{stays}
use Rattle.publish_core.proofs.Soundness.{taken_within}
use Rattle.publish_core.proofs.machine.Core.empty_slot.Goals as goal

pub clear_slot-requires-clause-within : goal.clear_slot-requires-clause-within
clear_slot-requires-clause-within c = taken_within (state_of c.args.self.now) c.args.self.now.sound c.args.seat c.in-Some.batch c.in-Some.ensures.some

pub invariant_of-self : goal.invariant_of-self
invariant_of-self c = let s = c.args.self.now in
    record {
      sound = stays (state_of s) (empty_slot c.args.seat) _ s.sound
          (c.in-Some.ensures.acts, (c.in-Some.batch, c.in-Some.ensures.some)) c.clear_slot.ensures;
    }
