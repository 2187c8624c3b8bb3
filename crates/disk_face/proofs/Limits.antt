-- The greatest numbers that a name can have, as the checker computes them.
use Rattle.std.proofs.Common.{◌≡◌, refl}
use Rattle.disk_face.specs.declared.names.TheConstants.{WAL_MAX, INDEX_MAX}

wal_max : WAL_MAX ≡ 999999999999
wal_max = refl

index_max : INDEX_MAX ≡ 999
index_max = refl
