-- What the batches so far leave is taken.
use Rattle.std.proofs.Common.{take}
use Rattle.batch_repr.specs.Versions.{versions_in}
use Rattle.snapshot_view.specs.Building.{TakesVersions, TakesRanges}
use Rattle.snapshot_view.proofs.building.add_batches.Given as goal

abbrev pub invariant-loop-batch : goal.invariant-loop-batch
invariant-loop-batch l = record {
  keys : TakesVersions l.fn.versions.versions (versions_in (take l.batch-index l.batches)) l.versions.versions;
  deletes : TakesRanges l.fn.ranges (versions_in (take l.batch-index l.batches)) l.ranges;
}
