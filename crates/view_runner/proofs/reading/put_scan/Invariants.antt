use Rattle.std.proofs.Common.{◌≡◌, ◌++◌, ◌≤◌, length, map}
use Rattle.std.specs.List.{flat_map}
use Rattle.snapshot_view.specs.Scans.{pair_shown}
use Rattle.view_runner.specs.Texts.{pair_line}
use Rattle.view_runner.proofs.reading.put_scan.Given as goal

abbrev pub invariant-loop-pair : goal.invariant-loop-pair
invariant-loop-pair l = record {
  text : l.out ≡ l.fn.out ++ flat_map pair_line (map pair_shown l.yielded);
  count : l.count ≡ length l.yielded;
  few : l.count ≤ length l.out;
}
