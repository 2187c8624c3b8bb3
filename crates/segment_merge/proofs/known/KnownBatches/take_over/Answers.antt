use Rattle.std.proofs.Common.{arith}
use Rattle.segment_merge.proofs.Whole.{ascends_from_0, ends_below}
use Rattle.segment_merge.proofs.known.KnownBatches.take_over.Goals as goal

pub invariant_of-self : goal.invariant_of-self
invariant_of-self c = record {
  ascending = ascends_from_0 _ _ c.requires.ascending;
  below = omega (arith, ends_below c.args.self.now.next c.args.batches, c.requires.next);
}
