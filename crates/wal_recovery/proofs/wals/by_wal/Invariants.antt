use Rattle.std.proofs.Common.{length}
use Rattle.wal_recovery.specs.Rows.{Groups}
use Rattle.wal_recovery.proofs.wals.by_wal.Given as goal

abbrev pub invariant-loop-first : goal.invariant-loop-first
invariant-loop-first l = Groups l.wals l.row l.rest

abbrev pub decreases-loop-first : goal.decreases-loop-first
decreases-loop-first l = length l.rest
