use Rattle.std.proofs.Common.{ap, ◌∙◌}
use Rattle.std.specs.Int.{w64, from_le_bytes}
use Rattle.std.specs.Int.Bits.{bit_xor}
use Rattle.std.proofs.lemmas.Nat.{from_le_bytes-to_le_bytes_8, xor_lt}
use Rattle.crc_chunk.proofs.crc.with_register.Goals as goal

pub returns-clause-sum : goal.returns-clause-sum
returns-clause-sum c =
    ap (from_le_bytes w64) c.to_le_bytes.ensures
    ∙ from_le_bytes-to_le_bytes_8 (bit_xor c.from_le_bytes.result c.from.result)
    (xor_lt 64 c.from_le_bytes.result c.from.result c.from_le_bytes.type_inv c.from.type_inv)
    ∙ ap (bit_xor c.from_le_bytes.result) c.from.ensures
    ∙ ap (λ n. bit_xor n c.args.register) c.from_le_bytes.ensures
