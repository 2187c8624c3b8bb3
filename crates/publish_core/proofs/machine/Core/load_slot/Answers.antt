use Rattle.std.proofs.Common.{arith, ◌<◌}
use Rattle.publish_core.specs.declared.state.TheConstants.{SLOTS}
use Rattle.publish_core.specs.Machine.{load_slot}
use Rattle.publish_core.specs.Answers.{state_of}
use Rattle.publish_core.proofs.Answered.{stays}
use Rattle.publish_core.proofs.machine.Core.load_slot.Goals as goal

pub invariant_of-self : goal.invariant_of-self
invariant_of-self c = let s = c.args.self.now in let small : c.args.at < SLOTS = omega arith in
    record { sound = stays (state_of s) (load_slot c.args.seat c.args.at) _ s.sound (c.acts.ensures.acts.0 c.if-not-acts.false, small) c.read_slot.ensures }
