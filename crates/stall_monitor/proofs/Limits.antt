-- The limits that the rules fix.
use Rattle.std.proofs.Common.{◌≡◌, refl}
use Rattle.stall_monitor.specs.declared.verdict.TheConstants.{SEGMENTS_MAX, THRESHOLD_MAX}

segments_max : SEGMENTS_MAX ≡ 10
segments_max = refl

threshold_max : THRESHOLD_MAX ≡ 1000
threshold_max = refl
