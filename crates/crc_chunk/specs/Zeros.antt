-- What zero bits leave of a register, which the tables of the checksum hold (docs/formats/log.md, "Checksum").
use Rattle.std.specs.Prelude.{ℕ, zero, suc}
use Rattle.crc_chunk.specs.Crc.{after_bit}

-- the register after this many zero bits
unfoldable pub over_zeros : ℕ → ℕ → ℕ
over_zeros zero register = register
over_zeros (suc n) register = over_zeros n (after_bit register 0)
