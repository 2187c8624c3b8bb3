use Rattle.std.proofs.Common.{◌≡◌, ◌+◌, length, arith}
use Rattle.publish_core.specs.Machine.{admit}
use Rattle.publish_core.specs.Answers.{state_of}
use Rattle.publish_core.proofs.Answered.{stays, did}
use Rattle.publish_core.proofs.Soundness.{producer_is}
use Rattle.publish_core.proofs.machine.Core.admit.Goals as goal

pub invariant_of-self : goal.invariant_of-self
invariant_of-self c = let s = c.args.self.now in let full : length s.kept.batches.items ≡ s.kept.head + 1 = omega arith in
    record { sound = stays (state_of s) admit _ s.sound (full, producer_is (state_of s) s.sound) c.admit_batch.ensures }

pub returns : goal.returns
returns c = let s = c.args.self.now in let full : length s.kept.batches.items ≡ s.kept.head + 1 = omega arith in
    did (state_of s) admit _ (full, producer_is (state_of s) s.sound) c.admit_batch.ensures
