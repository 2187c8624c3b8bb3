use Rattle.std.proofs.Common.{◌≡◌, ℕ, ◌/◌, ◌%◌, List, get_or, arith, sym, ap, ◌∙◌}
use Rattle.std.specs.Int.Bits.{bit_xor}
use Rattle.crc_chunk.specs.Zeros.{over_zeros}
use Rattle.crc_chunk.proofs.Steps.{after_byte}
use Rattle.crc_chunk.proofs.crc.after_byte.Goals as goal

pub returns : goal.returns
returns c =
    let low : get_or c.to_le_bytes-sum.result 0 0 ≡ bit_xor c.args.register c.args.byte % 256 =
    ap (λ (t : List ℕ). get_or t 0 0) c.to_le_bytes-sum.ensures ∙ ap (λ (b : ℕ). bit_xor c.args.register b % 256) c.from.ensures in
    ap (λ (t : ℕ). bit_xor t (c.args.register / 256)) (c.entry.ensures ∙ ap (over_zeros 8) low) ∙ sym (after_byte c.args.register c.args.byte (omega arith))
