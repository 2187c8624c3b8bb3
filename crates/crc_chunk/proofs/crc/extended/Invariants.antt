use Rattle.std.proofs.Common.{◌≡◌, length, drop}
use Rattle.std.specs.List.{flat_map}
use Rattle.crc_chunk.specs.Crc.{bits_of, after_bits}
use Rattle.crc_chunk.proofs.crc.extended.Given as goal

abbrev pub invariant-loop-first : goal.invariant-loop-first
invariant-loop-first l = after_bits l.register (flat_map bits_of l.rest) ≡ after_bits l.fn.register (flat_map bits_of l.bytes)

abbrev pub decreases-loop-first : goal.decreases-loop-first
decreases-loop-first l = length l.rest

abbrev pub invariant-loop-byte : goal.invariant-loop-byte
invariant-loop-byte l = after_bits l.register (flat_map bits_of (drop l.byte-index l.byte-items)) ≡ after_bits l.fn.register (flat_map bits_of l.bytes)
