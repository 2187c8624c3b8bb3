-- The checksum CRC-32C, bit by bit, and the form in which it is stored (docs/formats/log.md, "Checksum").
use Rattle.std.specs.Prelude.{ℕ, ◌+◌, ◌/◌, ◌%◌, ◌^◌, ◌==◌, List, [], ◌∷◌, bit_xor, if◌then◌else◌}
use Rattle.std.specs.List.{flat_map}
use Rattle.std.specs.Int.{w32, bit_at, bit_not, rotate_right}

-- the polynomial, with its lowest power in the highest bit
abbrev pub polynomial : ℕ
polynomial = 0x82F63B78

-- the bits of a byte, lowest first
abbrev pub bits_of : ℕ → List ℕ
bits_of byte = bit_at byte 0 ∷ bit_at byte 1 ∷ bit_at byte 2 ∷ bit_at byte 3 ∷ bit_at byte 4 ∷ bit_at byte 5 ∷ bit_at byte 6 ∷ bit_at byte 7 ∷ []

-- The register is shifted right by one place, and where the bit differs from its lowest bit the polynomial is added.
abbrev pub after_bit : ℕ → ℕ → ℕ
after_bit register bit = if register % 2 == bit then register / 2 else bit_xor (register / 2) polynomial

-- the register after bits, one after another
unfoldable pub after_bits : ℕ → List ℕ → ℕ
after_bits register [] = register
after_bits register (bit ∷ bits) = after_bits (after_bit register bit) bits

-- From a register of 32 ones, over all bits of all bytes; then every bit is turned.
unfoldable pub checksum : List ℕ → ℕ
checksum bytes = bit_not w32 (after_bits 0xFFFFFFFF (flat_map bits_of bytes))

-- the form that is stored
abbrev pub masked_of : ℕ → ℕ
masked_of crc = (rotate_right w32 crc 15 + 0xA282EAD8) % 2 ^ 32
