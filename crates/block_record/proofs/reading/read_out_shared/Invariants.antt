use Rattle.std.proofs.Common.{◌-◌, length}
use Rattle.block_record.proofs.Walked.{Walked}
use Rattle.block_record.proofs.reading.read_out_shared.Given as goal

abbrev pub invariant-loop-chunk : goal.invariant-loop-chunk
invariant-loop-chunk l = Walked l.fn.bytes.items l.log l.at l.end l.is_open l.joining

abbrev pub decreases-loop-chunk : goal.decreases-loop-chunk
decreases-loop-chunk l = length l.joining.bytes - l.end
