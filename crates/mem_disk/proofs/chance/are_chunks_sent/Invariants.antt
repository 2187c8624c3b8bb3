use Rattle.std.proofs.Common.{ℕ, ◌<◌}
use Rattle.mem_disk.specs.Sent.{IsSentAt}
use Rattle.mem_disk.proofs.chance.are_chunks_sent.Given as goal

abbrev pub invariant-loop-at : goal.invariant-loop-at
invariant-loop-at l = (k : ℕ) → k < l.at → IsSentAt l.bytes l.sent l.log k
