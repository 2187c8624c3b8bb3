use Rattle.std.proofs.Common.{arith, ◌≡◌, ◌<◌, None, rules}
use Rattle.publish_core.specs.declared.state.TheConstants.{SHARDS}
use Rattle.publish_core.specs.Machine.{take_shard}
use Rattle.publish_core.specs.Answers.{state_of}
use Rattle.publish_core.proofs.Answered.{stays}
use Rattle.publish_core.proofs.machine.Core.take_shard.Goals as goal

pub invariant_of-self : goal.invariant_of-self
invariant_of-self c = let s = c.args.self.now in let small : c.args.shard < SHARDS = omega arith in
    let none : ((state_of s).seats c.args.seat).turn ≡ None = search rules in
    record {
      sound = stays (state_of s) (take_shard c.args.seat c.args.shard) _ s.sound
          (c.acts.ensures.acts.0 c.if-not-acts.false, small, none) c.lend.ensures;
    }
