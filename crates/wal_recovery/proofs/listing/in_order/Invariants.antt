use Rattle.std.proofs.Common.{◌+◌, length}
use Rattle.wal_recovery.specs.Rows.{Weaves}
use Rattle.wal_recovery.proofs.listing.in_order.Given as goal

abbrev pub invariant-loop-row : goal.invariant-loop-row
invariant-loop-row l = Weaves l.row l.primary l.secondary l.ones l.others

abbrev pub decreases-loop-row : goal.decreases-loop-row
decreases-loop-row l = length l.ones + length l.others
