-- Those that were passed lack the key.
use Rattle.std.specs.Prelude.{◌≤◌}
use Rattle.range_cover.proofs.Scan.{NoneHas}
use Rattle.range_cover.proofs.mark.newest_below.Given as goal

abbrev pub invariant-loop-place : goal.invariant-loop-place
invariant-loop-place l = record {
  within : l.place ≤ l.initial.place;
  none : NoneHas l.marks l.key l.place l.initial.place;
}

abbrev pub decreases-loop-place : goal.decreases-loop-place
decreases-loop-place l = l.place
