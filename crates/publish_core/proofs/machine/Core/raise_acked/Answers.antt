use Rattle.std.proofs.Common.{◌≤◌, arith}
use Rattle.publish_core.specs.Machine.{raise_acked}
use Rattle.publish_core.specs.Answers.{state_of}
use Rattle.publish_core.proofs.Answered.{stays}
use Rattle.publish_core.proofs.machine.Core.raise_acked.Goals as goal

pub invariant_of-self : goal.invariant_of-self
invariant_of-self c = let s = c.args.self.now in let within : c.args.to ≤ s.kept.head = omega arith in
    record { sound = stays (state_of s) (raise_acked c.args.to) _ s.sound within c.raise_acked_to.ensures }
