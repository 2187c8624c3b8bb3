use Rattle.std.proofs.Common.{◌≡◌, ◌<◌, ◌++◌, length, take}
use Rattle.block_record.specs.Framing.{later_fragments, later_chunks}
use Rattle.block_record.proofs.framer.append_later.Given as goal

abbrev pub invariant-loop-rest : goal.invariant-loop-rest
invariant-loop-rest l = record {
  left : l.out ++ later_chunks l.log l.offset (later_fragments l.rest) ≡ l.fn.out ++ later_chunks l.log l.offset (later_fragments l.bytes);
  some : 0 < length l.rest;
  kept : take (length l.fn.out) l.out ≡ l.fn.out;
}

abbrev pub decreases-loop-rest : goal.decreases-loop-rest
decreases-loop-rest l = length l.rest
