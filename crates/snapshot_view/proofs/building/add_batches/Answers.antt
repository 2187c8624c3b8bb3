-- Each batch is taken above those before it.
use Rattle.std.proofs.Common.{List, subst}
use Rattle.batch_repr.specs.declared.batch.Batch.{Batch}
use Rattle.batch_repr.specs.Versions.{versions_in}
use Rattle.snapshot_view.specs.Building.{TakesVersions, TakesRanges}
use Rattle.snapshot_view.proofs.Taking.{takes_none, takes_no_range, all_taken}
use Rattle.snapshot_view.proofs.Rows.{batch_taken, batch_ranges_taken, below_first, ends_in_range}
use Rattle.snapshot_view.proofs.building.add_batches.Goals as goal

pub loop-batch-init : goal.loop-batch-init
loop-batch-init c = record { keys = takes_none c.args.versions.now.versions; deletes = takes_no_range c.args.ranges.now }

pub add_batch-requires : goal.add_batch-requires
add_batch-requires c =
    let viewed = c.requires.row.1 in
    record {
      below = below_first c.args.batches.now c.loop-batch.batch-index c.batch-item.result c.loop-batch-test.true c.batch-item.is viewed.start viewed.row
          c.args.versions.now.versions c.loop-batch.versions.versions c.requires.none c.loop-batch.invariant.keys;
      small = ends_in_range c.args.batches.now c.loop-batch.batch-index c.batch-item.result c.loop-batch-test.true c.batch-item.is c.requires.row.0 viewed;
    }

pub loop-batch-preserved : goal.loop-batch-preserved
loop-batch-preserved c = record {
  keys = batch_taken c.args.batches.now c.loop-batch.batch-index c.batch-item.result c.loop-batch-test.true c.batch-item.is
      c.args.versions.now.versions c.loop-batch.versions.versions c.add_batch.new.versions.versions c.loop-batch.invariant.keys c.in_ok-add_batch.ensures.keys;
  deletes = batch_ranges_taken c.args.batches.now c.loop-batch.batch-index c.batch-item.result c.loop-batch-test.true c.batch-item.is
      c.args.ranges.now c.loop-batch.ranges c.add_batch.new.ranges c.loop-batch.invariant.deletes c.in_ok-add_batch.ensures.deletes;
}

pub returns-clause-keys : goal.returns-clause-keys
returns-clause-keys c =
    subst (λ (bs : List Batch). TakesVersions c.args.versions.now.versions (versions_in bs) c.loop-batch.versions.versions)
    (all_taken c.args.batches.now c.loop-batch.batch-index c.loop-batch-test.false) c.loop-batch.invariant.keys

pub returns-clause-deletes : goal.returns-clause-deletes
returns-clause-deletes c =
    subst (λ (bs : List Batch). TakesRanges c.args.ranges.now (versions_in bs) c.loop-batch.ranges)
    (all_taken c.args.batches.now c.loop-batch.batch-index c.loop-batch-test.false) c.loop-batch.invariant.deletes
