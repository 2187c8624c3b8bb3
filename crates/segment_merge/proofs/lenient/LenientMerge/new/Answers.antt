use Rattle.segment_merge.proofs.LenientPass.{keeps_none, keeps_own}
use Rattle.segment_merge.proofs.lenient.LenientMerge.new.Goals as goal

pub invariant_of-result : goal.invariant_of-result
invariant_of-result c = keeps_own _ c.new.result (keeps_none c.new.result c.new.ensures.batches c.new.ensures.next)
