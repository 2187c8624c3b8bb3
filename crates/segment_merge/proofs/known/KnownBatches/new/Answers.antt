use Rattle.std.proofs.Common.{sym, subst}
use Rattle.segment_merge.specs.Keeping.{AreKept}
use Rattle.segment_merge.proofs.Ascending.{kept_none}
use Rattle.segment_merge.proofs.known.KnownBatches.new.Goals as goal

pub invariant_of-result : goal.invariant_of-result
invariant_of-result c = subst (λ batches. AreKept batches c.args.next) (sym c.new.ensures) (kept_none c.args.next)
