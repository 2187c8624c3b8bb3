use Rattle.std.proofs.Common.{◌≤◌, ◌+◌, take, sym, subst, arith}
use Rattle.segment_merge.specs.Rows.{IsNumbered}
use Rattle.segment_merge.specs.Keeping.{IsAscendingFrom}
use Rattle.segment_merge.proofs.Whole.{ascending_none, ascending_more}
use Rattle.segment_merge.proofs.lenient.ascending_end.Goals as goal

pub loop-batch-init : goal.loop-batch-init
loop-batch-init c = ascending_none c.args.from

pub loop-batch-preserved : goal.loop-batch-preserved
loop-batch-preserved c =
    let i = c.loop-batch.batch-index in
    let batch = c.batch-item.result in
    let at : c.loop-batch.next ≤ batch.first = omega arith in
    let numbered : IsNumbered batch = subst IsNumbered (sym c.batch-item.is) (c.requires i batch c.loop-batch-test.true) in
    subst (λ n. IsAscendingFrom c.args.from (take (i + 1) c.args.batches.now) n) (sym c.end-next.ensures)
    (ascending_more c.args.batches.now i batch c.loop-batch-test.true c.batch-item.is c.args.from c.loop-batch.next numbered c.loop-batch.invariant at)
