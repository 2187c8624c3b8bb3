use Rattle.std.proofs.Common.{sym, subst, rules}
use Rattle.batch_repr.specs.Batches.{end_of}
use Rattle.segment_merge.specs.Keeping.{AreKept}
use Rattle.segment_merge.proofs.Ascending.{kept_push}
use Rattle.segment_merge.proofs.known.KnownBatches.push.Goals as goal

pub invariant_of-self : goal.invariant_of-self
invariant_of-self c =
    subst (λ n. AreKept c.push.new.self n) (sym c.end-next.ensures)
    (subst (λ batches. AreKept batches (end_of c.args.batch)) (sym c.in-Ok.ensures.ok)
    (kept_push c.self.inside.batches c.self.inside.next c.args.batch c.self.invariant (search rules) c.requires.numbered.some))
