use Rattle.publish_core.specs.Machine.{claim}
use Rattle.publish_core.specs.Answers.{state_of}
use Rattle.publish_core.proofs.Answered.{stays}
use Rattle.publish_core.proofs.machine.Core.claim.Goals as goal

pub invariant_of-self : goal.invariant_of-self
invariant_of-self c =
    let s = c.args.self.now in record {
      sound = stays (state_of s) (claim c.args.seat) _ s.sound (c.can_claim.ensures.0 c.if-not-can_claim.false) c.exchange_ends.ensures;
    }
