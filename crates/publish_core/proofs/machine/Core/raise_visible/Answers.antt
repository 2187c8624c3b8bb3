use Rattle.publish_core.specs.Machine.{raise_visible}
use Rattle.publish_core.specs.Answers.{state_of}
use Rattle.publish_core.proofs.Answered.{stays}
use Rattle.publish_core.proofs.Soundness.{emptied_within}
use Rattle.publish_core.proofs.machine.Core.raise_visible.Goals as goal

pub raise_published-requires-clause-within : goal.raise_published-requires-clause-within
raise_published-requires-clause-within c = emptied_within (state_of c.args.self.now) c.args.self.now.sound c.args.seat c.in-Some.batch c.in-Some.ensures.some

pub invariant_of-self : goal.invariant_of-self
invariant_of-self c = let s = c.args.self.now in
    record {
      sound = stays (state_of s) (raise_visible c.args.seat) _ s.sound
          (c.in-Some.ensures.acts, (c.in-Some.batch, c.in-Some.ensures.some)) c.raise_published.ensures;
    }
