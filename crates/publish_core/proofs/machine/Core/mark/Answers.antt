use Rattle.std.proofs.Common.{ℕ, ◌<◌, ◌≤◌, ◌*◌, ◌%◌, length, arith}
use Rattle.publish_core.specs.declared.state.TheConstants.{SLOTS, END_LIMIT}
use Rattle.publish_core.specs.Machine.{mark, ends}
use Rattle.publish_core.specs.Parts.{shape_count}
use Rattle.publish_core.specs.Answers.{state_of}
use Rattle.publish_core.proofs.Answered.{stays_or}
use Rattle.publish_core.proofs.Soundness.{word_within}
use Rattle.publish_core.proofs.machine.Core.mark.Goals as goal

pub mark_batch-requires-clause-word : goal.mark_batch-requires-clause-word
mark_batch-requires-clause-word c = let s = c.args.self.now in let i : ℕ = c.in-Some.batch in
    let w : (state_of s).ring (i % SLOTS) ≤ 2 * ends shape_count s.kept.base s.kept.batches.items (length s.kept.batches.items) =
    word_within (state_of s) s.sound c.args.seat i c.in-Some.ensures.held in
    let e = s.kept.end_is in let small : s.kept.end < END_LIMIT = s.kept.end_small in omega arith

pub invariant_of-self : goal.invariant_of-self
invariant_of-self c = let s = c.args.self.now in
    record {
      sound = stays_or c.mark_batch.result (state_of s)
          (mark c.args.seat) _ s.sound c.in-Some.ensures.some c.mark_batch.ensures.ok c.mark_batch.ensures.err;
    }
