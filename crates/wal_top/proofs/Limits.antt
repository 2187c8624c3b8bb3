-- The limit of a script, as the checker computes it.
use Rattle.std.proofs.Common.{◌≡◌, refl}
use Rattle.wal_top.specs.declared.reading.TheConstants.{SCRIPT_MAX}

script_max : SCRIPT_MAX ≡ 8388608
script_max = refl
