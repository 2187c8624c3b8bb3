-- A worked row of docs/formats: a record of 17 bytes, framed at a segment's front with log number 1 and sync offset 28.
use Rattle.std.proofs.Common.{◌≡◌, ℕ, List, [], ◌∷◌, refl}
use Rattle.crc_chunk.specs.Crc.{after_bits, checksum}
use Rattle.crc_chunk.specs.Chunk.{covered, chunk_bytes}
use Rattle.block_record.specs.Framing.{framed}

abbrev batch : List ℕ
batch = 0x0a ∷ 0 ∷ 0 ∷ 0 ∷ 0 ∷ 0 ∷ 0 ∷ 0 ∷ 1 ∷ 0 ∷ 0 ∷ 0 ∷ 1 ∷ 1 ∷ 0x61 ∷ 1 ∷ 0x31 ∷ []

framed_batch : framed 1 0 28 batch ≡ 0x30 ∷ 0x02 ∷ 0x14 ∷ 0x85 ∷ 0x11 ∷ 0 ∷ 9 ∷ 1 ∷ 0 ∷ 0 ∷ 0 ∷ 28 ∷ 0 ∷ 0 ∷ 0 ∷ 0 ∷ 0 ∷ 0 ∷ 0 ∷ batch
unfolding framed chunk_bytes covered checksum after_bits
framed_batch = refl
