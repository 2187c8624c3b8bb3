-- What the entries so far leave is taken, and the number is the one after theirs.
use Rattle.std.proofs.Common.{◌≡◌, ◌+◌, take}
use Rattle.batch_repr.specs.Batches.{count_of}
use Rattle.batch_repr.specs.Versions.{versions_from}
use Rattle.snapshot_view.specs.Building.{TakesVersions, TakesRanges}
use Rattle.snapshot_view.proofs.building.add_batch.Given as goal

abbrev pub invariant-loop-entry : goal.invariant-loop-entry
invariant-loop-entry l = record {
  number : l.number ≡ l.batch.first + count_of (take l.entry-index l.batch.entries);
  keys : TakesVersions l.fn.versions.versions (versions_from l.batch.first (take l.entry-index l.batch.entries)) l.versions.versions;
  deletes : TakesRanges l.fn.ranges (versions_from l.batch.first (take l.entry-index l.batch.entries)) l.ranges;
}
