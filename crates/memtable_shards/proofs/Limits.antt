-- The number of shards that the rules fix.
use Rattle.std.proofs.Common.{◌≡◌, refl}
use Rattle.memtable_shards.specs.declared.sharding.TheConstants.{SHARDS}

shards : SHARDS ≡ 8
shards = refl
