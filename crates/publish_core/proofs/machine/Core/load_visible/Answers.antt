use Rattle.publish_core.specs.Machine.{load_visible}
use Rattle.publish_core.specs.Answers.{state_of}
use Rattle.publish_core.proofs.Answered.{stays}
use Rattle.publish_core.proofs.machine.Core.load_visible.Goals as goal

pub invariant_of-self : goal.invariant_of-self
invariant_of-self c =
    let s = c.args.self.now in record {
      sound = stays (state_of s) (load_visible c.args.seat) _ s.sound (c.acts.ensures.acts.0 c.if-not-acts.false) c.read_visible.ensures;
    }
