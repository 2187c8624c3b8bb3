-- The definitions at the examples of docs/formats, as the checker computes them.
use Rattle.std.proofs.Common.{◌≡◌, [], ◌∷◌, refl, replicate}
use Rattle.std.specs.Prelude.{codes}
use Rattle.std.specs.List.{range_with_len}
use Rattle.crc_chunk.specs.declared.chunk.ChunkKind.TheVariants.{Full}
use Rattle.crc_chunk.specs.Crc.{after_bits, checksum, masked_of}
use Rattle.crc_chunk.specs.Chunk.{old_chunk, covered, chunk_bytes}

pub of_none : checksum [] ≡ 0
unfolding checksum after_bits
of_none = refl

pub of_digits : checksum (codes "123456789") ≡ 0xE3069283
unfolding checksum after_bits
of_digits = refl

pub of_zeros : checksum (replicate 32 0) ≡ 0x8A9136AA
unfolding checksum after_bits
of_zeros = refl

pub of_ones : checksum (replicate 32 0xFF) ≡ 0x62A8AB43
unfolding checksum after_bits
of_ones = refl

pub of_rising : checksum (range_with_len 0 32) ≡ 0x46DD794E
unfolding checksum after_bits
of_rising = refl

pub of_five : checksum (5 ∷ 1 ∷ 0 ∷ 0 ∷ 0 ∷ []) ≡ 0x40630D91
unfolding checksum after_bits
of_five = refl

pub masked_none : masked_of 0 ≡ 0xA282EAD8
masked_none = refl

pub masked_digits : masked_of 0xE3069283 ≡ 0xC78AB0E5
masked_digits = refl

pub empty_chunk : chunk_bytes 1 (old_chunk Full []) ≡ 0x9e ∷ 0x6b ∷ 0xa5 ∷ 0xbd ∷ 0x00 ∷ 0x00 ∷ 0x05 ∷ 0x01 ∷ 0x00 ∷ 0x00 ∷ 0x00 ∷ []
unfolding checksum after_bits covered chunk_bytes
empty_chunk = refl
