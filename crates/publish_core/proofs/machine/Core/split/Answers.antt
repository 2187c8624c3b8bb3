use Rattle.std.proofs.Common.{sym, subst}
use Rattle.publish_core.specs.Machine.{split}
use Rattle.publish_core.specs.Parts.{IsSoundCore}
use Rattle.publish_core.specs.Answers.{state_of}
use Rattle.publish_core.proofs.Answered.{stays}
use Rattle.publish_core.proofs.Soundness.{held_within}
use Rattle.publish_core.proofs.Lent.{either}
use Rattle.publish_core.proofs.machine.Core.split.Goals as goal

pub split_off-requires-clause-placed : goal.split_off-requires-clause-placed
split_off-requires-clause-placed c = λ i e. held_within (state_of c.args.self.now) c.args.self.now.sound 0 i e

pub invariant_of-self : goal.invariant_of-self
invariant_of-self c = let s = c.args.self.now in
    record {
      sound = either c.split_off.result _ _ _ c.split_off.ensures.ok c.split_off.ensures.err
          (λ e. stays (state_of s) (split c.args.from c.args.note) _ s.sound (c.can_split.ensures.possible.0 c.if-not-can_split.false) e)
          (λ e. subst IsSoundCore (sym e) s.sound);
    }
