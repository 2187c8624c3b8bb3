-- What was passed over gives nothing.
use Rattle.std.proofs.Common.{◌≡◌, option_map, length}
use Rattle.snapshot_view.specs.Scans.{pairs_left}
use Rattle.snapshot_view.proofs.scan.ScanIterator.next.Given as goal

abbrev pub invariant-loop-version : goal.invariant-loop-version
invariant-loop-version l =
    l.fn.self ≡ pairs_left l.self-inside.at l.self-inside.ranges.now (option_map (λ key. key.now) l.self-inside.met) l.self-inside.walk

abbrev pub decreases-loop-version : goal.decreases-loop-version
decreases-loop-version l = length l.self-inside.walk
