use Rattle.std.proofs.Common.{◌≡◌, None}
use Rattle.lent_work.specs.Ends.{work_of, IsWorkerOf}
use Rattle.lent_work.proofs.tests.add_ones.Given as goal

-- The end is of this desk, and has no work.
abbrev pub invariant-loop : goal.invariant-loop
invariant-loop g l = IsWorkerOf l.desk l.worker × (work_of l.worker ≡ None)
