-- The limit of a record, as the checker computes it.
use Rattle.std.proofs.Common.{◌≡◌, refl}
use Rattle.block_record.specs.declared.framer.TheConstants.{RECORD_MAX}

record_max : RECORD_MAX ≡ 4194304
record_max = refl
