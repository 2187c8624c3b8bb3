-- The batches so far are one run, and this comes next.
use Rattle.std.proofs.Common.{[], take}
use Rattle.wal_ship.specs.Taking.{AreOneRun}
use Rattle.wal_ship.proofs.tests.see_run.Given as goal

abbrev pub invariant-loop-batch : goal.invariant-loop-batch
invariant-loop-batch g l = AreOneRun [] (take l.batch-index l.batches) l.next
