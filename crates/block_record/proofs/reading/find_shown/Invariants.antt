use Rattle.std.proofs.Common.{◌-◌, length}
use Rattle.block_record.proofs.Shows.{Looked}
use Rattle.block_record.proofs.reading.find_shown.Given as goal

abbrev pub invariant-loop-at : goal.invariant-loop-at
invariant-loop-at l = Looked l.bytes l.log l.stopped l.at

abbrev pub decreases-loop-at : goal.decreases-loop-at
decreases-loop-at l = length l.bytes - l.at
