-- The limit that the rules fix.
use Rattle.std.proofs.Common.{◌≡◌, refl}
use Rattle.log_writer.specs.declared.polling.TheConstants.{WAITING_MAX}

waiting_max : WAITING_MAX ≡ 1000
waiting_max = refl
