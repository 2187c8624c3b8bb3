-- Each threshold that is allowed can be reached: pending answers are counted as far.
use Rattle.std.proofs.Common.{◌≡◌, refl}
use Rattle.stall_monitor.specs.declared.verdict.TheConstants.{THRESHOLD_MAX}
use Rattle.log_writer.specs.declared.polling.TheConstants.{WAITING_MAX}

counted : WAITING_MAX ≡ THRESHOLD_MAX
counted = refl
