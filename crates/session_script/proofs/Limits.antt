-- The limit of a stall, as the checker computes it.
use Rattle.std.proofs.Common.{◌≡◌, refl}
use Rattle.session_script.specs.declared.saying.TheConstants.{POLLS_MAX}

polls_max : POLLS_MAX ≡ 100000
polls_max = refl
