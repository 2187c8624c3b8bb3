use Rattle.std.proofs.Common.{◌≡◌, ◌+◌, ◌<◌, ◌≤◌, [], take, arith, rules, subst}
use Rattle.batch_repr.specs.declared.limits.TheConstants.{NUMBER_MAX}
use Rattle.batch_repr.specs.Batches.{count_of, end_of}
use Rattle.wal_ship.specs.Taking.{AreOneRun}
use Rattle.wal_ship.proofs.Runs.{run_all, run_more, run_start}
use Rattle.wal_ship.proofs.tests.see_run.Goals as goal

pub loop-batch-init : goal.loop-batch-init
loop-batch-init g c = run_start

pub loop-batch-preserved : goal.loop-batch-preserved
loop-batch-preserved g c =
    let batch = c.batch-item.result in
    let first : batch.first ≡ c.loop-batch.next = search rules in
    let some : 0 < count_of batch.entries = omega arith in
    let end : end_of batch ≡ c.loop-batch.next + c.count-count.result = omega (arith, first, c.count-count.ensures) in
    let within : end_of batch ≤ NUMBER_MAX = omega (arith, end) in
    subst (λ next. AreOneRun [] (take (c.loop-batch.batch-index + 1) c.args.batches.now) next) end
    (run_more c.args.batches.now c.loop-batch.batch-index c.loop-batch.next batch c.loop-batch-test.true c.batch-item.is c.loop-batch.invariant first some within)

pub returns : goal.returns
returns g c =
    let run = run_all c.args.batches.now c.loop-batch.batch-index c.loop-batch.next c.loop-batch-test.false c.loop-batch.invariant in
    record { contiguous = run.contiguous; within = omega (arith, run.next_is, run.within) }
