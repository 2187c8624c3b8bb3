-- The sizes that the format fixes, as the checker computes them.
use Rattle.std.proofs.Common.{◌≡◌, refl}
use Rattle.crc_chunk.specs.declared.chunk.TheConstants.{HEADER, SYNC_HEADER, BLOCK}

header : HEADER ≡ 11
header = refl

sync_header : SYNC_HEADER ≡ 19
sync_header = refl

block : BLOCK ≡ 32768
block = refl
