-- The limits that the rules fix.
use Rattle.std.proofs.Common.{◌≡◌, refl}
use Rattle.command_line.specs.declared.command.TheConstants.{THRESHOLD_DEFAULT, LOAD_MAX}
use Rattle.command_line.specs.declared.numbers.TheConstants.{DIGITS_MAX}

threshold_default : THRESHOLD_DEFAULT ≡ 3
threshold_default = refl

load_max : LOAD_MAX ≡ 2000000
load_max = refl

digits_max : DIGITS_MAX ≡ 20
digits_max = refl
